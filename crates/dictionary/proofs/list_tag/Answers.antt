-- `dictionary::list_tag` meets its contract: the number of the name tells the list.
use Prim.Native.Nat.{◌<◌}
use mathlib.Core.Logic.{◌⊎◌, inl, inr}
use mathlib.Core.Path.{◌≡◌, refl, ap}
use native.Mathlib.Omega.{arith}
use Rattle.format.specs.Bytes.{Bytes, text}
use Rattle.words.specs.RuleNames.{place_in, rule_names, rule_no}
use Rattle.words.specs.declared.fieldnames.Rule.{Rule}
use Rattle.words.proofs.RuleNames.{is-placed, not-placed}
use Rattle.dictionary.specs.Tags.{list_tag}
use Rattle.dictionary.proofs.list_tag.Goals as goal

pub returns-in-Mandatory : goal.returns-in-Mandatory
unfolding list_tag
returns-in-Mandatory c =
    rw (is-placed c.args.name.now (text "%mandatory") rule_names (rule_no c.rule_of.result) 2 c.rule_of.ensures refl (omega arith) refl (ap rule_no c.in-Mandatory.is))

pub returns-in-Prohibit : goal.returns-in-Prohibit
unfolding list_tag
returns-in-Prohibit c =
    rw (not-placed c.args.name.now (text "%mandatory") rule_names (rule_no c.rule_of.result) 2 c.rule_of.ensures refl (λ e. absurd (omega (arith, e, (ap rule_no c.in-Prohibit.is)))), is-placed c.args.name.now (text "%prohibit") rule_names (rule_no c.rule_of.result) 3 c.rule_of.ensures refl (omega arith) refl (ap rule_no c.in-Prohibit.is))

pub returns-in-Allowed : goal.returns-in-Allowed
unfolding list_tag
returns-in-Allowed c =
    rw (not-placed c.args.name.now (text "%mandatory") rule_names (rule_no c.rule_of.result) 2 c.rule_of.ensures refl (λ e. absurd (omega (arith, e, (ap rule_no c.in-Allowed.is)))), not-placed c.args.name.now (text "%prohibit") rule_names (rule_no c.rule_of.result) 3 c.rule_of.ensures refl (λ e. absurd (omega (arith, e, (ap rule_no c.in-Allowed.is)))), is-placed c.args.name.now (text "%allowed") rule_names (rule_no c.rule_of.result) 4 c.rule_of.ensures refl (omega arith) refl (ap rule_no c.in-Allowed.is))

pub returns-in-Unique : goal.returns-in-Unique
unfolding list_tag
returns-in-Unique c =
    rw (not-placed c.args.name.now (text "%mandatory") rule_names (rule_no c.rule_of.result) 2 c.rule_of.ensures refl (λ e. absurd (omega (arith, e, (ap rule_no c.in-Unique.is)))), not-placed c.args.name.now (text "%prohibit") rule_names (rule_no c.rule_of.result) 3 c.rule_of.ensures refl (λ e. absurd (omega (arith, e, (ap rule_no c.in-Unique.is)))), not-placed c.args.name.now (text "%allowed") rule_names (rule_no c.rule_of.result) 4 c.rule_of.ensures refl (λ e. absurd (omega (arith, e, (ap rule_no c.in-Unique.is)))), is-placed c.args.name.now (text "%unique") rule_names (rule_no c.rule_of.result) 5 c.rule_of.ensures refl (omega arith) refl (ap rule_no c.in-Unique.is))

pub returns-in-Key : goal.returns-in-Key
unfolding list_tag
returns-in-Key c =
    rw (not-placed c.args.name.now (text "%mandatory") rule_names (rule_no c.rule_of.result) 2 c.rule_of.ensures refl (λ e. absurd (omega (arith, e, (ap rule_no c.in-Key.is)))), not-placed c.args.name.now (text "%prohibit") rule_names (rule_no c.rule_of.result) 3 c.rule_of.ensures refl (λ e. absurd (omega (arith, e, (ap rule_no c.in-Key.is)))), not-placed c.args.name.now (text "%allowed") rule_names (rule_no c.rule_of.result) 4 c.rule_of.ensures refl (λ e. absurd (omega (arith, e, (ap rule_no c.in-Key.is)))), not-placed c.args.name.now (text "%unique") rule_names (rule_no c.rule_of.result) 5 c.rule_of.ensures refl (λ e. absurd (omega (arith, e, (ap rule_no c.in-Key.is)))), is-placed c.args.name.now (text "%key") rule_names (rule_no c.rule_of.result) 6 c.rule_of.ensures refl (omega arith) refl (ap rule_no c.in-Key.is))

-- a name of another number lists no names that have a tag
untagged : (n : Bytes) (r k : Rule) → rule_no r ≡ place_in n rule_names → (rule_no k < 2) ⊎ (6 < rule_no k) → r ≡ k → 64 ≡ list_tag n
unfolding list_tag
untagged n r k e (inl h) q =
    rw (not-placed n (text "%mandatory") rule_names (rule_no r) 2 e refl (λ x. omega (arith, ap rule_no q)), not-placed n (text "%prohibit") rule_names (rule_no r) 3 e refl (λ x. omega (arith, ap rule_no q)), not-placed n (text "%allowed") rule_names (rule_no r) 4 e refl (λ x. omega (arith, ap rule_no q)), not-placed n (text "%unique") rule_names (rule_no r) 5 e refl (λ x. omega (arith, ap rule_no q)), not-placed n (text "%key") rule_names (rule_no r) 6 e refl (λ x. omega (arith, ap rule_no q)))
untagged n r k e (inr h) q =
    rw (not-placed n (text "%mandatory") rule_names (rule_no r) 2 e refl (λ x. omega (arith, ap rule_no q)), not-placed n (text "%prohibit") rule_names (rule_no r) 3 e refl (λ x. omega (arith, ap rule_no q)), not-placed n (text "%allowed") rule_names (rule_no r) 4 e refl (λ x. omega (arith, ap rule_no q)), not-placed n (text "%unique") rule_names (rule_no r) 5 e refl (λ x. omega (arith, ap rule_no q)), not-placed n (text "%key") rule_names (rule_no r) 6 e refl (λ x. omega (arith, ap rule_no q)))

others : (n : Bytes) (r : Rule) → rule_no r ≡ place_in n rule_names → (r ≡ Rule.Rec) ⊎ ((r ≡ Rule.Doc) ⊎ ((r ≡ Rule.Size) ⊎ ((r ≡ Rule.Typedef) ⊎ ((r ≡ Rule.Type) ⊎ ((r ≡ Rule.Singular) ⊎ ((r ≡ Rule.Auto) ⊎ ((r ≡ Rule.Other)))))))) → 64 ≡ list_tag n
others n r e (inl q) = untagged n r Rule.Rec e (inl (omega arith)) q
others n r e (inr (inl q)) = untagged n r Rule.Doc e (inl (omega arith)) q
others n r e (inr (inr (inl q))) = untagged n r Rule.Size e (inr (omega arith)) q
others n r e (inr (inr (inr (inl q)))) = untagged n r Rule.Typedef e (inr (omega arith)) q
others n r e (inr (inr (inr (inr (inl q))))) = untagged n r Rule.Type e (inr (omega arith)) q
others n r e (inr (inr (inr (inr (inr (inl q)))))) = untagged n r Rule.Singular e (inr (omega arith)) q
others n r e (inr (inr (inr (inr (inr (inr (inl q))))))) = untagged n r Rule.Auto e (inr (omega arith)) q
others n r e (inr (inr (inr (inr (inr (inr (inr q))))))) = untagged n r Rule.Other e (inr (omega arith)) q

pub returns-in-Rec : goal.returns-in-Rec
returns-in-Rec c = others c.args.name.now c.rule_of.result c.rule_of.ensures c.in-Rec.is
