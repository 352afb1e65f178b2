-- `selection::parts::sign_of` meets its contract: each way through the tests by a law of the two bytes.
use mathlib.Core.Path.{refl}
use mathlib.Core.Option.{none, some}
use Rattle.selection.specs.Expressions.{equals, differs, less_than, at_most, more_than, at_least, comparing, not_sign, and_sign, or_sign, open_sign, close_sign}
use Rattle.selection.proofs.Marks.{one_byte, two_bytes, other-behind, no-mark}
use Rattle.selection.proofs.parts.sign_of.Goals as goal

pub returns-then-b-eq61 : goal.returns-then-b-eq61
returns-then-b-eq61 c = one_byte 61 c.args.b c.args.next (some (comparing equals)) c.if-b-eq61.true refl

pub returns-then-next-eq61 : goal.returns-then-next-eq61
returns-then-next-eq61 c = two_bytes 33 61 c.args.b c.args.next c.if-b-eq33.true c.if-next-eq61.true

pub returns-then-b-eq33 : goal.returns-then-b-eq33
returns-then-b-eq33 c = other-behind 33 61 c.args.b c.args.next (some (comparing differs)) (some not_sign) c.if-b-eq33.true c.if-next-eq61.false refl

pub returns-then-next-eq61-2 : goal.returns-then-next-eq61-2
returns-then-next-eq61-2 c = two_bytes 60 61 c.args.b c.args.next c.if-b-eq60.true c.if-next-eq61-2.true

pub returns-then-b-eq60 : goal.returns-then-b-eq60
returns-then-b-eq60 c = other-behind 60 61 c.args.b c.args.next (some (comparing at_most)) (some (comparing less_than)) c.if-b-eq60.true c.if-next-eq61-2.false refl

pub returns-then-next-eq61-3 : goal.returns-then-next-eq61-3
returns-then-next-eq61-3 c = two_bytes 62 61 c.args.b c.args.next c.if-b-eq62.true c.if-next-eq61-3.true

pub returns-then-b-eq62 : goal.returns-then-b-eq62
returns-then-b-eq62 c = other-behind 62 61 c.args.b c.args.next (some (comparing at_least)) (some (comparing more_than)) c.if-b-eq62.true c.if-next-eq61-3.false refl

pub returns-then-next-eq38 : goal.returns-then-next-eq38
returns-then-next-eq38 c = two_bytes 38 38 c.args.b c.args.next c.if-b-eq38.true c.if-next-eq38.true

pub returns-then-b-eq38 : goal.returns-then-b-eq38
returns-then-b-eq38 c = other-behind 38 38 c.args.b c.args.next (some and_sign) none c.if-b-eq38.true c.if-next-eq38.false refl

pub returns-then-next-eq124 : goal.returns-then-next-eq124
returns-then-next-eq124 c = two_bytes 124 124 c.args.b c.args.next c.if-b-eq124.true c.if-next-eq124.true

pub returns-then-b-eq124 : goal.returns-then-b-eq124
returns-then-b-eq124 c = other-behind 124 124 c.args.b c.args.next (some or_sign) none c.if-b-eq124.true c.if-next-eq124.false refl

pub returns-then-b-eq40 : goal.returns-then-b-eq40
returns-then-b-eq40 c = one_byte 40 c.args.b c.args.next (some open_sign) c.if-b-eq40.true refl

pub returns-then-b-eq41 : goal.returns-then-b-eq41
returns-then-b-eq41 c = one_byte 41 c.args.b c.args.next (some close_sign) c.if-b-eq41.true refl

pub returns : goal.returns
returns c = no-mark c.args.b c.args.next c.if-b-eq61.false c.if-b-eq33.false c.if-b-eq60.false c.if-b-eq62.false c.if-b-eq38.false c.if-b-eq124.false c.if-b-eq40.false c.if-b-eq41.false
