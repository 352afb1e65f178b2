-- `descriptors::shapes::special_content` meets its contract: the name has the place of one of the rows, or of none.
use native.Mathlib.Omega.{arith}
use mathlib.Core.Path.{refl, ap}
use Rattle.format.specs.Bytes.{text}
use Rattle.descriptors.specs.declared.shapes.Content.{Content}
use Rattle.words.specs.RuleNames.{rule_no}
use Rattle.descriptors.proofs.Contents.{rec-asks, doc-asks, mandatory-asks, prohibit-asks, allowed-asks, unique-asks, key-asks, size-asks, typedef-asks, type-asks, singular-asks, auto-asks, asks_at, asks_none}
use Rattle.descriptors.proofs.shapes.special_content.Goals as goal

pub returns-in-Rec : goal.returns-in-Rec
returns-in-Rec c =
    asks_at c.args.name.now (text "%rec") Content.TypeName (rule_no c.rule_of.result) 0 c.rule_of.ensures refl (omega arith) refl rec-asks (ap rule_no c.in-Rec.is)

pub returns-in-Doc : goal.returns-in-Doc
returns-in-Doc c =
    asks_at c.args.name.now (text "%doc") Content.Free (rule_no c.rule_of.result) 1 c.rule_of.ensures refl (omega arith) refl doc-asks (ap rule_no c.in-Doc.is)

pub returns-in-Mandatory : goal.returns-in-Mandatory
returns-in-Mandatory c =
    asks_at c.args.name.now (text "%mandatory") Content.Names (rule_no c.rule_of.result) 2 c.rule_of.ensures refl (omega arith) refl mandatory-asks (ap rule_no c.in-Mandatory.is)

pub returns-in-Prohibit : goal.returns-in-Prohibit
returns-in-Prohibit c =
    asks_at c.args.name.now (text "%prohibit") Content.Names (rule_no c.rule_of.result) 3 c.rule_of.ensures refl (omega arith) refl prohibit-asks (ap rule_no c.in-Prohibit.is)

pub returns-in-Allowed : goal.returns-in-Allowed
returns-in-Allowed c =
    asks_at c.args.name.now (text "%allowed") Content.Names (rule_no c.rule_of.result) 4 c.rule_of.ensures refl (omega arith) refl allowed-asks (ap rule_no c.in-Allowed.is)

pub returns-in-Unique : goal.returns-in-Unique
returns-in-Unique c =
    asks_at c.args.name.now (text "%unique") Content.Names (rule_no c.rule_of.result) 5 c.rule_of.ensures refl (omega arith) refl unique-asks (ap rule_no c.in-Unique.is)

pub returns-in-Key : goal.returns-in-Key
returns-in-Key c =
    asks_at c.args.name.now (text "%key") Content.Name (rule_no c.rule_of.result) 6 c.rule_of.ensures refl (omega arith) refl key-asks (ap rule_no c.in-Key.is)

pub returns-in-Size : goal.returns-in-Size
returns-in-Size c =
    asks_at c.args.name.now (text "%size") Content.Size (rule_no c.rule_of.result) 7 c.rule_of.ensures refl (omega arith) refl size-asks (ap rule_no c.in-Size.is)

pub returns-in-Typedef : goal.returns-in-Typedef
returns-in-Typedef c =
    asks_at c.args.name.now (text "%typedef") Content.Free (rule_no c.rule_of.result) 8 c.rule_of.ensures refl (omega arith) refl typedef-asks (ap rule_no c.in-Typedef.is)

pub returns-in-Type : goal.returns-in-Type
returns-in-Type c =
    asks_at c.args.name.now (text "%type") Content.Free (rule_no c.rule_of.result) 9 c.rule_of.ensures refl (omega arith) refl type-asks (ap rule_no c.in-Type.is)

pub returns-in-Singular : goal.returns-in-Singular
returns-in-Singular c =
    asks_at c.args.name.now (text "%singular") Content.Names (rule_no c.rule_of.result) 10 c.rule_of.ensures refl (omega arith) refl singular-asks (ap rule_no c.in-Singular.is)

pub returns-in-Auto : goal.returns-in-Auto
returns-in-Auto c =
    asks_at c.args.name.now (text "%auto") Content.Ordinary (rule_no c.rule_of.result) 11 c.rule_of.ensures refl (omega arith) refl auto-asks (ap rule_no c.in-Auto.is)

pub returns-in-Other : goal.returns-in-Other
returns-in-Other c =
    asks_none c.args.name.now (rule_no c.rule_of.result) c.requires c.rule_of.ensures (omega (arith, ap rule_no c.in-Other.is))
