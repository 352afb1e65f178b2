-- Where the sets of a part stand: a descriptor, and the records behind it and before the next one.
use Rattle.std.specs.Prelude.{ℕ, ◌+◌, List, [], ◌∷◌, drop, Option, Some, None}
use Rattle.format.specs.Bytes.{Bytes, pick}
use Rattle.records.specs.Places.{Placed, places_of, is_descriptor, head_place, count_before}
use Rattle.records.specs.declared.Head.{Head}
use Rattle.records.specs.declared.MemberRun.{MemberRun}
use Rattle.records.specs.declared.RecordSet.{RecordSet}

-- The byte behind the block of the last record before any descriptor; where there is none, the place where the records begin.
unfoldable pub set_end : ℕ → List Placed → ℕ
set_end at [] = at
set_end at (p ∷ ps) = pick (is_descriptor p) at (set_end p.after ps)

-- the records before any descriptor: how many, and where they end
abbrev pub leading : List Placed → MemberRun
leading ps = record { count = count_before ps; end = set_end 0 ps }

-- the first descriptor, and the records behind it
abbrev pub set_at : Placed → List Placed → RecordSet
set_at p ps = record { start = p.start; end = p.end; begin = p.after; after = set_end p.after ps; count = count_before ps }

unfoldable pub first_set : List Placed → Option RecordSet
first_set [] = None
first_set (p ∷ ps) = pick (is_descriptor p) (Some (set_at p ps)) (first_set ps)

-- the set behind a head: the records from where they begin on, before any other descriptor
abbrev pub set_behind : Bytes → Head → RecordSet
set_behind s h =
    let m : MemberRun = leading (places_of (drop h.begin s)) in
    record { start = h.start; end = h.end; begin = h.begin; after = h.begin + m.end; count = m.count }

abbrev pub set_found : Bytes → Option Head → Option RecordSet
set_found s None = None
set_found s (Some h) = Some (set_behind s h)

-- the set of a name
unfoldable pub set_place : Bytes → Bytes → Option RecordSet
set_place n s = set_found s (head_place n (places_of s))
