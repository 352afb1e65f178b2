-- Terms put one after the other.
use Prim.Native.Nat.{ℕ, ◌+◌, ◌<◌}
use native.Mathlib.Omega.{arith}
use mathlib.Core.Path.{◌≡◌, refl, sym, ap, ◌∙◌, subst}
use mathlib.Core.List.{List, [], ◌∷◌, ◌++◌, append_assoc, append-nil}
use lib.ListN.{length, set, take, length-set, length-append}
use Rattle.format.specs.Bytes.{Bytes}
use Rattle.terms.specs.Sets.{Term}
use Rattle.terms.specs.Entries.{term_at, terms_of, IsEntry}
use Rattle.terms.proofs.Prints.{entries-more, terms-more}
use Rattle.terms.specs.Adding.{Adding}

pub adding-start : (d : Bytes) (l : List ℕ) (n : ℕ) (all : List Term) → Adding d l n all all l n
adding-start d l n all = record { long = refl; count = refl; entries = λ h. h; terms = refl }

pub adding-rest : {d : Bytes} {l : List ℕ} {n : ℕ} {all : List Term} (rest more : List Term) {m : List ℕ} {k : ℕ} → rest ≡ more → Adding d l n all rest m k → Adding d l n all more m k
adding-rest {d} {l} {n} {all} rest more {m} {k} e a = subst (λ (ts : List Term). Adding d l n all ts m k) e a

-- one more
pub adding-one : (d : Bytes) (l : List ℕ) (n : ℕ) (all rest : List Term) (t : Term) (m : List ℕ) (k e : ℕ) → Adding d l n all (t ∷ rest) m k → k < length m → IsEntry d e → term_at d e ≡ t → Adding d l n all rest (set m k e) (k + 1)
adding-one d l n all rest t m k e a room is same =
    record {
      long = length-set m k e ∙ a.long;
      count = omega (arith, a.count);
      entries = λ h. entries-more d m k e room (a.entries h) is;
      terms =
          ap (λ (ts : List Term). ts ++ rest) (terms-more d m k e room)
          ∙ append_assoc (terms_of d (take k m)) (term_at d e ∷ []) rest
          ∙ ap (λ (x : Term). terms_of d (take k m) ++ (x ∷ rest)) same
          ∙ a.terms;
    }

-- several more
pub adding-many : (d : Bytes) (l : List ℕ) (n : ℕ) (all ts rest : List Term) (m : List ℕ) (k : ℕ) (p : List ℕ) (r : ℕ) → Adding d l n all (ts ++ rest) m k → Adding d m k ts [] p r → Adding d l n all rest p r
adding-many d l n all ts rest m k p r a b =
    record {
      long = b.long ∙ a.long;
      count = omega (arith, a.count, b.count, length-append ts rest);
      entries = λ h. b.entries (a.entries h);
      terms =
          ap (λ (us : List Term). us ++ rest) (sym (append-nil (terms_of d (take r p))) ∙ b.terms)
          ∙ append_assoc (terms_of d (take k m)) ts rest
          ∙ a.terms;
    }
