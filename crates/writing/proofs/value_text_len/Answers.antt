-- `writing::value_text_len` meets its contract: a newline takes two bytes more.
use Rattle.std.proofs.Common.{rules}
use Rattle.writing.proofs.Texts.{indent-count}
use Rattle.writing.proofs.value_text_len.Goals as goal

pub returns : goal.returns
returns c = search (rules, indent-count)
