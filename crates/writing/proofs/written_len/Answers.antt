-- `writing::written_len` meets its contract: a value's text has at most three bytes for each of its bytes.
use native.Mathlib.Omega.{arith}
use Rattle.writing.proofs.Texts.{indent-length, written-length}
use Rattle.writing.proofs.written_len.Goals as goal

pub overflow_add-result : goal.overflow_add-result
overflow_add-result c =
    omega (arith, indent-length c.args.value.now)

pub overflow_add-result-2 : goal.overflow_add-result-2
overflow_add-result-2 c =
    omega (arith, indent-length c.args.value.now)

pub returns : goal.returns
returns c =
    omega (arith, written-length c.args.name.now c.args.value.now)
