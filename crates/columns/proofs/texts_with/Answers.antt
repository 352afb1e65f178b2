-- `columns::texts_with` meets its contract: in a table without symbols none is found.
use native.Mathlib.Omega.{arith}
use mathlib.Core.Path.{subst}
use lib.ListN.{take}
use Rattle.format.specs.Bytes.{Bytes}
use Rattle.format.specs.Words.{trim}
use Rattle.terms.specs.Entries.{terms_of}
use Rattle.terms.proofs.Search.{none_found}
use Rattle.enums.proofs.Rows.{finds}
use Rattle.enums.specs.Rows.{Found}
use Rattle.columns.proofs.texts_with.Goals as goal

pub returns-then-symbols-eq0 : goal.returns-then-symbols-eq0
returns-then-symbols-eq0 c =
    let d = c.args.d.now in
    let w : Bytes = trim c.args.v.now in
    let entries = c.args.entries.now in
    let n = c.args.symbols.table.count in
    finds d c.args.texts.now c.args.symbols.from w c.args.symbols.next (terms_of d (take n entries)) c.requires.short (c.requires.terms w) 0 (none_found d w entries n c.if-symbols-eq0.true)

pub slice_bounds-look_up-count : goal.slice_bounds-look_up-count
slice_bounds-look_up-count c =
    c.trimmed-t.ensures.0

pub slice_bounds-look_up-start : goal.slice_bounds-look_up-start
slice_bounds-look_up-start c =
    omega (arith, c.trimmed-t.ensures.0, c.trimmed-t.ensures.1)

pub slice_bounds-look_up-end : goal.slice_bounds-look_up-end
slice_bounds-look_up-end c =
    c.trimmed-t.ensures.1

pub look_up-requires : goal.look_up-requires
look_up-requires c =
    c.requires

pub returns : goal.returns
returns c =
    subst (λ (w : Bytes). Found c.args.d.now c.args.texts.now c.args.symbols.from c.args.symbols.next w c.look_up.result) c.trimmed-t.ensures.2 c.look_up.ensures
