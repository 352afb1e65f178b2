-- `limits::counted` meets its contract: the number of the name tells which number grows, and none of them where it is no list's, no `%typedef` and no `%type`.
use native.Mathlib.Omega.{arith}
use Prim.Native.Nat.{◌<◌}
use mathlib.Core.Logic.{◌⊎◌, inl, inr}
use mathlib.Core.Path.{◌≡◌, refl, sym, ap, ◌∙◌}
use Rattle.format.specs.Bytes.{Bytes, text}
use Rattle.format.specs.declared.Descriptor.{Descriptor}
use Rattle.values.specs.Value.{value_from}
use Rattle.words.specs.RuleNames.{place_in, rule_names, rule_no}
use Rattle.words.specs.declared.fieldnames.Rule.{Rule}
use Rattle.words.proofs.RuleNames.{is-placed, not-placed}
use Rattle.limits.specs.Counts.{count_on}
use Rattle.limits.proofs.Tallies.{counts-path, count-named, count-other}
use Rattle.limits.proofs.counted.Goals as goal

pub overflow_add-c : goal.overflow_add-c
overflow_add-c c =
    omega (arith, c.requires.d_bound)

pub returns-in-Typedef : goal.returns-in-Typedef
unfolding count_on
returns-in-Typedef c =
    let v = value_from c.args.value.now in
    let named = is-placed c.args.name.now (text "%typedef") rule_names (rule_no c.rule_of.result) 8 c.rule_of.ensures refl (omega arith) refl (ap rule_no c.in-Typedef.is) in
    (counts-path _ (count_on c.args.d (text "%typedef") v) (omega (arith)) (omega (arith)) (omega (arith)) (omega (arith)) (omega (arith)) (omega (arith)) (omega (arith)) (omega (arith)) ∙ sym (count-named c.args.d c.args.name.now v (text "%typedef") named), omega (arith))

pub overflow_add-c-in-Type : goal.overflow_add-c-in-Type
overflow_add-c-in-Type c =
    omega (arith, c.requires.d_bound)

pub returns-in-Type : goal.returns-in-Type
unfolding count_on
returns-in-Type c =
    let v = value_from c.args.value.now in
    let named = is-placed c.args.name.now (text "%type") rule_names (rule_no c.rule_of.result) 9 c.rule_of.ensures refl (omega arith) refl (ap rule_no c.in-Type.is) in
    (counts-path _ (count_on c.args.d (text "%type") v) (omega (arith)) (omega (arith)) (omega (arith)) (omega (arith)) (omega (arith)) (omega (arith)) (omega (arith)) (omega (arith)) ∙ sym (count-named c.args.d c.args.name.now v (text "%type") named), omega (arith))

pub overflow_add-c-in-Mandatory : goal.overflow_add-c-in-Mandatory
overflow_add-c-in-Mandatory c =
    omega (arith, c.requires.d_bound, c.requires.value_len_bound, c.count_words.ensures.1)

pub returns-in-Mandatory : goal.returns-in-Mandatory
unfolding count_on
returns-in-Mandatory c =
    let v = value_from c.args.value.now in
    let named = is-placed c.args.name.now (text "%mandatory") rule_names (rule_no c.rule_of.result) 2 c.rule_of.ensures refl (omega arith) refl (ap rule_no c.in-Mandatory.is) in
    (counts-path _ (count_on c.args.d (text "%mandatory") v) (omega (arith)) (omega (arith)) (omega (arith, c.count_words.ensures.0, c.count_words.ensures.1)) (omega (arith)) (omega (arith)) (omega (arith)) (omega (arith)) (omega (arith)) ∙ sym (count-named c.args.d c.args.name.now v (text "%mandatory") named), omega (arith, c.count_words.ensures.0, c.count_words.ensures.1))

pub overflow_add-c-in-Prohibit : goal.overflow_add-c-in-Prohibit
overflow_add-c-in-Prohibit c =
    omega (arith, c.requires.d_bound, c.requires.value_len_bound, c.count_words-in-Prohibit.ensures.1)

pub returns-in-Prohibit : goal.returns-in-Prohibit
unfolding count_on
returns-in-Prohibit c =
    let v = value_from c.args.value.now in
    let named = is-placed c.args.name.now (text "%prohibit") rule_names (rule_no c.rule_of.result) 3 c.rule_of.ensures refl (omega arith) refl (ap rule_no c.in-Prohibit.is) in
    (counts-path _ (count_on c.args.d (text "%prohibit") v) (omega (arith)) (omega (arith)) (omega (arith)) (omega (arith, c.count_words-in-Prohibit.ensures.0, c.count_words-in-Prohibit.ensures.1)) (omega (arith)) (omega (arith)) (omega (arith)) (omega (arith)) ∙ sym (count-named c.args.d c.args.name.now v (text "%prohibit") named), omega (arith, c.count_words-in-Prohibit.ensures.0, c.count_words-in-Prohibit.ensures.1))

pub overflow_add-c-in-Allowed : goal.overflow_add-c-in-Allowed
overflow_add-c-in-Allowed c =
    omega (arith, c.requires.d_bound, c.requires.value_len_bound, c.count_words-in-Allowed.ensures.1)

pub returns-in-Allowed : goal.returns-in-Allowed
unfolding count_on
returns-in-Allowed c =
    let v = value_from c.args.value.now in
    let named = is-placed c.args.name.now (text "%allowed") rule_names (rule_no c.rule_of.result) 4 c.rule_of.ensures refl (omega arith) refl (ap rule_no c.in-Allowed.is) in
    (counts-path _ (count_on c.args.d (text "%allowed") v) (omega (arith)) (omega (arith)) (omega (arith)) (omega (arith)) (omega (arith, c.count_words-in-Allowed.ensures.0, c.count_words-in-Allowed.ensures.1)) (omega (arith)) (omega (arith)) (omega (arith)) ∙ sym (count-named c.args.d c.args.name.now v (text "%allowed") named), omega (arith, c.count_words-in-Allowed.ensures.0, c.count_words-in-Allowed.ensures.1))

pub overflow_add-c-in-Unique : goal.overflow_add-c-in-Unique
overflow_add-c-in-Unique c =
    omega (arith, c.requires.d_bound, c.requires.value_len_bound, c.count_words-in-Unique.ensures.1)

pub returns-in-Unique : goal.returns-in-Unique
unfolding count_on
returns-in-Unique c =
    let v = value_from c.args.value.now in
    let named = is-placed c.args.name.now (text "%unique") rule_names (rule_no c.rule_of.result) 5 c.rule_of.ensures refl (omega arith) refl (ap rule_no c.in-Unique.is) in
    (counts-path _ (count_on c.args.d (text "%unique") v) (omega (arith)) (omega (arith)) (omega (arith)) (omega (arith)) (omega (arith)) (omega (arith, c.count_words-in-Unique.ensures.0, c.count_words-in-Unique.ensures.1)) (omega (arith)) (omega (arith)) ∙ sym (count-named c.args.d c.args.name.now v (text "%unique") named), omega (arith, c.count_words-in-Unique.ensures.0, c.count_words-in-Unique.ensures.1))

pub overflow_add-c-in-Singular : goal.overflow_add-c-in-Singular
overflow_add-c-in-Singular c =
    omega (arith, c.requires.d_bound, c.requires.value_len_bound, c.count_words-in-Singular.ensures.1)

pub returns-in-Singular : goal.returns-in-Singular
unfolding count_on
returns-in-Singular c =
    let v = value_from c.args.value.now in
    let named = is-placed c.args.name.now (text "%singular") rule_names (rule_no c.rule_of.result) 10 c.rule_of.ensures refl (omega arith) refl (ap rule_no c.in-Singular.is) in
    (counts-path _ (count_on c.args.d (text "%singular") v) (omega (arith)) (omega (arith)) (omega (arith)) (omega (arith)) (omega (arith)) (omega (arith)) (omega (arith, c.count_words-in-Singular.ensures.0, c.count_words-in-Singular.ensures.1)) (omega (arith)) ∙ sym (count-named c.args.d c.args.name.now v (text "%singular") named), omega (arith, c.count_words-in-Singular.ensures.0, c.count_words-in-Singular.ensures.1))

pub overflow_add-c-in-Auto : goal.overflow_add-c-in-Auto
overflow_add-c-in-Auto c =
    omega (arith, c.requires.d_bound, c.requires.value_len_bound, c.count_words-in-Auto.ensures.1)

pub returns-in-Auto : goal.returns-in-Auto
unfolding count_on
returns-in-Auto c =
    let v = value_from c.args.value.now in
    let named = is-placed c.args.name.now (text "%auto") rule_names (rule_no c.rule_of.result) 11 c.rule_of.ensures refl (omega arith) refl (ap rule_no c.in-Auto.is) in
    (counts-path _ (count_on c.args.d (text "%auto") v) (omega (arith)) (omega (arith)) (omega (arith)) (omega (arith)) (omega (arith)) (omega (arith)) (omega (arith)) (omega (arith, c.count_words-in-Auto.ensures.0, c.count_words-in-Auto.ensures.1)) ∙ sym (count-named c.args.d c.args.name.now v (text "%auto") named), omega (arith, c.count_words-in-Auto.ensures.0, c.count_words-in-Auto.ensures.1))

-- a name of another number counts nowhere
uncounted : (d : Descriptor) (n v : Bytes) (r k : Rule) → rule_no r ≡ place_in n rule_names → (rule_no k < 2) ⊎ (((5 < rule_no k) × (rule_no k < 8)) ⊎ (11 < rule_no k)) → r ≡ k → d ≡ count_on d n v
unfolding count_on
uncounted d n v r k e (inl h) q = sym (count-other d n v (not-placed n (text "%typedef") rule_names (rule_no r) 8 e refl (λ x. omega (arith, ap rule_no q, x))) (not-placed n (text "%type") rule_names (rule_no r) 9 e refl (λ x. omega (arith, ap rule_no q, x))) (not-placed n (text "%mandatory") rule_names (rule_no r) 2 e refl (λ x. omega (arith, ap rule_no q, x))) (not-placed n (text "%prohibit") rule_names (rule_no r) 3 e refl (λ x. omega (arith, ap rule_no q, x))) (not-placed n (text "%allowed") rule_names (rule_no r) 4 e refl (λ x. omega (arith, ap rule_no q, x))) (not-placed n (text "%unique") rule_names (rule_no r) 5 e refl (λ x. omega (arith, ap rule_no q, x))) (not-placed n (text "%singular") rule_names (rule_no r) 10 e refl (λ x. omega (arith, ap rule_no q, x))) (not-placed n (text "%auto") rule_names (rule_no r) 11 e refl (λ x. omega (arith, ap rule_no q, x))))
uncounted d n v r k e (inr (inl h)) q = sym (count-other d n v (not-placed n (text "%typedef") rule_names (rule_no r) 8 e refl (λ x. omega (arith, ap rule_no q, x))) (not-placed n (text "%type") rule_names (rule_no r) 9 e refl (λ x. omega (arith, ap rule_no q, x))) (not-placed n (text "%mandatory") rule_names (rule_no r) 2 e refl (λ x. omega (arith, ap rule_no q, x))) (not-placed n (text "%prohibit") rule_names (rule_no r) 3 e refl (λ x. omega (arith, ap rule_no q, x))) (not-placed n (text "%allowed") rule_names (rule_no r) 4 e refl (λ x. omega (arith, ap rule_no q, x))) (not-placed n (text "%unique") rule_names (rule_no r) 5 e refl (λ x. omega (arith, ap rule_no q, x))) (not-placed n (text "%singular") rule_names (rule_no r) 10 e refl (λ x. omega (arith, ap rule_no q, x))) (not-placed n (text "%auto") rule_names (rule_no r) 11 e refl (λ x. omega (arith, ap rule_no q, x))))
uncounted d n v r k e (inr (inr h)) q = sym (count-other d n v (not-placed n (text "%typedef") rule_names (rule_no r) 8 e refl (λ x. omega (arith, ap rule_no q, x))) (not-placed n (text "%type") rule_names (rule_no r) 9 e refl (λ x. omega (arith, ap rule_no q, x))) (not-placed n (text "%mandatory") rule_names (rule_no r) 2 e refl (λ x. omega (arith, ap rule_no q, x))) (not-placed n (text "%prohibit") rule_names (rule_no r) 3 e refl (λ x. omega (arith, ap rule_no q, x))) (not-placed n (text "%allowed") rule_names (rule_no r) 4 e refl (λ x. omega (arith, ap rule_no q, x))) (not-placed n (text "%unique") rule_names (rule_no r) 5 e refl (λ x. omega (arith, ap rule_no q, x))) (not-placed n (text "%singular") rule_names (rule_no r) 10 e refl (λ x. omega (arith, ap rule_no q, x))) (not-placed n (text "%auto") rule_names (rule_no r) 11 e refl (λ x. omega (arith, ap rule_no q, x))))

others : (d : Descriptor) (n v : Bytes) (r : Rule) → rule_no r ≡ place_in n rule_names → (r ≡ Rule.Rec) ⊎ ((r ≡ Rule.Doc) ⊎ ((r ≡ Rule.Key) ⊎ ((r ≡ Rule.Size) ⊎ ((r ≡ Rule.Other))))) → d ≡ count_on d n v
others d n v r e (inl q) = uncounted d n v r Rule.Rec e (inl (omega arith)) q
others d n v r e (inr (inl q)) = uncounted d n v r Rule.Doc e (inl (omega arith)) q
others d n v r e (inr (inr (inl q))) = uncounted d n v r Rule.Key e (inr (inl (omega arith, omega arith))) q
others d n v r e (inr (inr (inr (inl q)))) = uncounted d n v r Rule.Size e (inr (inl (omega arith, omega arith))) q
others d n v r e (inr (inr (inr (inr q)))) = uncounted d n v r Rule.Other e (inr (inr (omega arith))) q

pub returns-in-Rec : goal.returns-in-Rec
returns-in-Rec c = (others c.args.d c.args.name.now (value_from c.args.value.now) c.rule_of.result c.rule_of.ensures c.in-Rec.is, omega arith)
