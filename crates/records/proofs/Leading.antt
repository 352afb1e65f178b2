-- The records of a part before any descriptor fill a part of their own, up to the byte where they end.
use Prim.Native.Nat.{ℕ, ◌+◌}
use native.Mathlib.Omega.{arith}
use mathlib.Core.Path.{◌≡◌, refl, sym, ap, ◌∙◌, subst}
use mathlib.Core.Bool.{Bool, true, false}
use mathlib.Core.List.{List, [], ◌∷◌, ◌++◌, append-nil}
use lib.ListN.{take}
use Rattle.format.specs.Bytes.{Bytes, pick}
use Rattle.format.specs.Lists.{is_filled, flat}
use Rattle.format.specs.Pieces.{read_of}
use Rattle.format.specs.Records.{Record, Block, is_blank_line, blocks, fields_of}
use Rattle.format.specs.Sets.{RecSet, sets_of}
use Rattle.format.specs.Plain.{members_at}
use Rattle.format.proofs.Elements.{Filled}
use Rattle.format.proofs.Lists.{Parted, cut-parted, flat-cut, cut-flat, flat_append}
use Rattle.format.proofs.Records.{close, records_in, records}
use Rattle.format.proofs.Walking.{is_head}
use Rattle.records.specs.Places.{is_readable, Placed, size_in, placed_at, place_on, places_in, places_of}
use Rattle.records.specs.Sets.{set_end}
use Rattle.records.proofs.Readings.{Reads, reads_of, reads-readable, readable-reads, reads-take, places-read}
use Rattle.records.proofs.Walks.{size-append, size_none}
use Rattle.records.proofs.Members.{first_members, members-on, sets-places}

-- blocks up to the last record before any descriptor, by the fields of the first
abbrev lead_by : Record → Block → List Block → List Block
lead_by [] b bs = pick (is_filled bs) (b ∷ bs) []
lead_by (f ∷ fs) b bs = pick (is_head (f ∷ fs)) [] (b ∷ bs)

abbrev lead_blocks : List Block → List Block
lead_blocks [] = []
lead_blocks (b ∷ bs) = lead_by (fields_of b) b (lead_blocks bs)

-- their records are the members
members-by : (t : Bool) (r : Record) (b : Block) (bs : List Block) (rs : List Record) → fields_of b ≡ r → records_in bs ≡ rs → Filled r → records_in (pick t [] (b ∷ bs)) ≡ pick t [] (r ∷ rs)
members-by true r b bs rs e h k = refl
members-by false [] b bs rs e h k = absurd k
members-by false (f ∷ fs) b bs rs e h k = ap (λ (x : Record). close x (records_in bs)) e ∙ ap {B = List Record} (λ xs. (f ∷ fs) ∷ xs) h

records-by : (at : ℕ) (b : Block) (r : Record) → fields_of b ≡ r → (bs : List Block) (ps : List Placed) → records_in bs ≡ first_members ps → records_in (lead_by r b bs) ≡ first_members (place_on (is_filled r) (placed_at at b) ps)
records-by at b [] e [] ps h = h
records-by at b [] e (c ∷ bs) ps h = ap (λ (x : Record). close x (records_in (c ∷ bs))) e ∙ h
records-by at b (f ∷ fs) e bs ps h =
    members-by (is_head (f ∷ fs)) (f ∷ fs) b bs (first_members ps) e h tt
    ∙ sym (members-on (placed_at at b) ps ∙ ap (λ (x : Record). pick (is_head x) [] (x ∷ first_members ps)) e)

lead-records : (at : ℕ) (bs : List Block) → records_in (lead_blocks bs) ≡ first_members (places_in at bs)
lead-records at [] = refl
lead-records at (b ∷ bs) = records-by at b (fields_of b) refl (lead_blocks bs) (places_in (at + size_in b) bs) (lead-records (at + size_in b) bs)

-- they end where the members do
abbrev end_of : ℕ → List Block → ℕ → ℕ
end_of at bs e = pick (is_filled bs) (at + size_in (flat bs)) e

end-here : (at : ℕ) (b : Block) (bs : List Block) → end_of (at + size_in b) bs (at + size_in b) ≡ at + size_in (b ++ flat bs)
end-here at b [] = ap (λ (x : Block). at + size_in x) (sym (append-nil b))
end-here at b (c ∷ bs) = omega (arith, size-append b (flat (c ∷ bs)))

end_pick : (t : Bool) (at e : ℕ) (b : Block) (bs : List Block) → pick t e (end_of (at + size_in b) bs (at + size_in b)) ≡ end_of at (pick t [] (b ∷ bs)) e
end_pick true at e b bs = refl
end_pick false at e b bs = end-here at b bs

end_by : (at e : ℕ) (b : Block) (r : Record) → fields_of b ≡ r → (bs : List Block) (ps : List Placed) → ((d : ℕ) → set_end d ps ≡ end_of (at + size_in b) bs d) → set_end e (place_on (is_filled r) (placed_at at b) ps) ≡ end_of at (lead_by r b bs) e
unfolding set_end
end_by at e b [] q [] ps h = h e
end_by at e b [] q (c ∷ bs) ps h = h e ∙ omega (arith, size-append b (flat (c ∷ bs)))
end_by at e b (f ∷ fs) q bs ps h =
    ap (λ (x : Record). pick (is_head x) e (set_end (at + size_in b) ps)) q
    ∙ ap (pick (is_head (f ∷ fs)) e) (h (at + size_in b))
    ∙ end_pick (is_head (f ∷ fs)) at e b bs

lead-end : (at : ℕ) (bs : List Block) (e : ℕ) → set_end e (places_in at bs) ≡ end_of at (lead_blocks bs) e
unfolding set_end
lead-end at [] e = refl
lead-end at (b ∷ bs) e = end_by at e b (fields_of b) refl (lead_blocks bs) (places_in (at + size_in b) bs) (lead-end (at + size_in b) bs)

end-zero : (bs : List Block) → end_of 0 bs 0 ≡ size_in (flat bs)
end-zero [] = sym size_none
end-zero (b ∷ bs) = omega arith

-- they come first, and are cut as before
front-pick : (t : Bool) (b : Block) (bs cs : List Block) → (rest : List Block) × (bs ++ rest ≡ cs) → (rest : List Block) × (pick t [] (b ∷ bs) ++ rest ≡ b ∷ cs)
front-pick true b bs cs h = (b ∷ cs, refl)
front-pick false b bs cs h = (h.0, ap {B = List Block} (λ xs. b ∷ xs) h.1)

front_by_lem : (b : Block) (r : Record) (bs cs : List Block) → (rest : List Block) × (bs ++ rest ≡ cs) → (rest : List Block) × (lead_by r b bs ++ rest ≡ b ∷ cs)
front_by_lem b [] [] cs h = (b ∷ cs, refl)
front_by_lem b [] (c ∷ bs) cs h = (h.0, ap {B = List Block} (λ xs. b ∷ xs) h.1)
front_by_lem b (f ∷ fs) bs cs h = front-pick (is_head (f ∷ fs)) b bs cs h

lead-front : (bs : List Block) → (rest : List Block) × (lead_blocks bs ++ rest ≡ bs)
lead-front [] = ([], refl)
lead-front (b ∷ bs) = front_by_lem b (fields_of b) (lead_blocks bs) bs (lead-front bs)

parted-others : (bs rest : List Block) → Parted is_blank_line false (bs ++ rest) → Parted is_blank_line false bs
parted-others [] rest h = tt
parted-others (b ∷ bs) rest h = (h.0, parted-others bs rest h.1)

cut_again : (bs rest : List Block) → Parted is_blank_line true (bs ++ rest) → records_in (blocks (flat bs)) ≡ records_in bs
cut_again [] rest h = refl
cut_again (b ∷ bs) rest h = ap records_in (cut-flat is_blank_line (b ∷ bs) (h.0, parted-others bs rest h.1))

module _ (s : Bytes) (e : is_readable s ≡ true) where
  abbrev own : List Block
  own = lead_blocks (blocks (read_of s))

  ends : set_end 0 (places_of s) ≡ size_in (flat own)
  ends = ap (set_end 0) (places-read s) ∙ lead-end 0 (blocks (read_of s)) 0 ∙ end-zero own

  leads : Reads (take (set_end 0 (places_of s)) s) (flat own)
  leads =
      let f = lead-front (blocks (read_of s)) in
      let whole : flat own ++ flat f.0 ≡ read_of s = sym (flat_append own f.0) ∙ ap flat f.1 ∙ flat-cut is_blank_line (read_of s) in
      reads-take (flat own) (flat f.0) (subst (Reads s) (sym whole) (readable-reads s e)) (set_end 0 (places_of s)) (sym ends)

  pub leading-readable : is_readable (take (set_end 0 (places_of s)) s) ≡ true
  leading-readable = reads-readable leads

  pub leading-records : records (read_of (take (set_end 0 (places_of s)) s)) ≡ members_at 0 (sets_of (read_of s))
  unfolding records
  leading-records =
      let f = lead-front (blocks (read_of s)) in
      ap records (reads_of leads)
      ∙ cut_again own f.0 (subst (Parted is_blank_line true) (sym f.1) (cut-parted is_blank_line (read_of s)))
      ∙ lead-records 0 (blocks (read_of s))
      ∙ ap (λ (ps : List Placed). first_members ps) (sym (places-read s))
      ∙ ap (λ (ss : List RecSet). members_at 0 ss) (sym (sets-places s))
