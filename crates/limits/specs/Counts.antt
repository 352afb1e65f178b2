-- What is counted of a descriptor, field by field: `%typedef` and `%type` fields, and the words of the lists of names.
use Rattle.std.specs.Prelude.{ℕ, ◌+◌, length}
use Rattle.format.specs.Bytes.{Bytes, text, pick, same}
use Rattle.format.specs.Words.{words}
use Rattle.format.specs.declared.Descriptor.{Descriptor}

abbrev pub more : Descriptor → ℕ → ℕ → ℕ → ℕ → ℕ → ℕ → ℕ → ℕ → Descriptor
more d a b m p l u s o =
    record {
      typedefs = d.typedefs + a;
      types = d.types + b;
      mandatory = d.mandatory + m;
      prohibited = d.prohibited + p;
      allowed = d.allowed + l;
      unique = d.unique + u;
      singular = d.singular + s;
      auto = d.auto + o;
    }

-- one more field, by its name; the names differ, so at most one number grows
unfoldable pub count_on : Descriptor → Bytes → Bytes → Descriptor
count_on d n v =
    let k : ℕ = length (words v) in
    pick (same (text "%typedef") n) (more d 1 0 0 0 0 0 0 0)
    (pick (same (text "%type") n) (more d 0 1 0 0 0 0 0 0)
    (pick (same (text "%mandatory") n) (more d 0 0 k 0 0 0 0 0)
    (pick (same (text "%prohibit") n) (more d 0 0 0 k 0 0 0 0)
    (pick (same (text "%allowed") n) (more d 0 0 0 0 k 0 0 0)
    (pick (same (text "%unique") n) (more d 0 0 0 0 0 k 0 0)
    (pick (same (text "%singular") n) (more d 0 0 0 0 0 0 k 0)
    (pick (same (text "%auto") n) (more d 0 0 0 0 0 0 0 k) d)))))))

abbrev pub total : Descriptor → ℕ
total d = d.typedefs + d.types + d.mandatory + d.prohibited + d.allowed + d.unique + d.singular + d.auto
