-- What stays true of each piece under an edit: what the pieces have that it writes. Of an edit that can be written these are sound, and their bytes allowed.
use Prim.Native.Nat.{ℕ}
use mathlib.Core.Path.{◌≡◌, refl, sym, ap, ◌∙◌}
use mathlib.Core.Bool.{Bool, true, false, ◌&&◌, and-eq-true_iff}
use mathlib.Core.List.{List, [], ◌∷◌, ◌++◌, map}
use lib.ListN.{get_or}
use Rattle.format.specs.Bytes.{Bytes, pick, is_allowed, all, any}
use Rattle.format.specs.Lists.{flat, always, nth}
use Rattle.format.specs.Lines.{bytes, is_name}
use Rattle.format.specs.Pieces.{Piece, lines_of, all_lines, bytes_of}
use Rattle.format.specs.Records.{Block, is_field, is_record}
use Rattle.format.specs.Sets.{Group, groups, is_member}
use Rattle.format.specs.Rules.{is_ordinary}
use Rattle.format.specs.Written.{Pair, new_piece, is_legal_value}
use Rattle.format.specs.Edits.{Change, Act, Edit, is_of, change_piece, unfielded, in_block, newline, in_group, in_groups, newline_if, in_front, edit_pieces}
use Rattle.format.specs.Plain.{is_legal_edit}
use Rattle.format.proofs.Elements.{Each, each_append, each_map, each-imp, each_both, all-each, each_all}
use Rattle.format.proofs.Lists.{each_on, each-behind, each-flat}
use Rattle.format.proofs.Lines.{bytes-append, all_append}
use Rattle.format.proofs.Whole.{Sound, newline-sound}
use Rattle.format.proofs.Names.{name-allowed}
use Rattle.format.proofs.Writing.{written-bytes, written-sound, allowed-written}
use Rattle.format.proofs.Renaming.{sound-name, sound-rename, allowed-rename}
use Rattle.format.proofs.Legal.{is_writable, legal-ordinary, legal-writable, legals-writable, writable-name, ordinary-is-name, legal-joins, legal-allowed, writable-sound, written-allowed}
use Rattle.format.proofs.Named.{NewNames}
use Rattle.format.proofs.Fates.{fresh}
use Rattle.format.proofs.Regrouping.{groups-each}

-- the pieces that an edit writes have it
abbrev pub Keeps : (Piece → Type 0) → Edit → Type 0
Keeps P (Edit.insert new) = P newline × Each (λ (p : Pair). P (new_piece p)) new
Keeps P (Edit.on j Act.delete) = Unit {0}
Keeps P (Edit.on j (Act.add p)) = P (new_piece p)
Keeps P (Edit.on j (Act.change n o c)) = (q : Piece) → P q → Each P (change_piece c q)

module _ (P : Piece → Type 0) where
  each-unfielded : (b : Block) → Each P b → Each P (unfielded b)
  each-unfielded [] h = tt
  each-unfielded (Piece.blank l ∷ b) h = (h.0, each-unfielded b h.1)
  each-unfielded (Piece.comment l ∷ b) h = (h.0, each-unfielded b h.1)
  each-unfielded (Piece.field n v ls ∷ b) h = each-unfielded b h.1

  each-block : (j : ℕ) (a : Act) → Keeps P (Edit.on j a) → (b : Block) → Each P b → Each P (in_block a b)
  each-block j Act.delete k b h = each-unfielded b h
  each-block j (Act.add p) k b h = each-behind P is_field (new_piece p) k b h
  each-block j (Act.change n o c) k b h = each_on P (is_of n) (change_piece c) (λ q x e. k q x) b h o

  each-group : (e : Edit) → Keeps P e → (g : Group) → Each (Each P) g → Each (Each P) (in_group e g)
  each-group (Edit.insert new) k g h = each-behind (Each P) is_record (fresh new) (k.0, each_map P new_piece new k.1) g h
  each-group (Edit.on j a) k g h = each_on (Each P) is_member (λ (b : Block). in_block a b ∷ []) (λ b x e. (each-block j a k b x, tt)) g h j

  each-groups : (i : ℕ) (e : Edit) → Keeps P e → (ps : List Piece) → Each P ps → Each P (in_groups i e ps)
  each-groups i e k ps h =
      let gs : List Group = nth i (in_group e) (groups ps) in
      each-flat P (flat gs) (each-flat (Each P) gs (each_on (Each (Each P)) always (λ (g : Group). in_group e g ∷ []) (λ g y t. (each-group e k g y, tt)) (groups ps) (groups-each P ps h) i))

  each-newline : P newline → (ps : List Piece) → Each P ps → Each P (newline_if ps ++ ps)
  each-newline x [] h = tt
  each-newline x (p ∷ ps) h = (x, h)

  pub edit-all : (i : ℕ) (e : Edit) → Keeps P e → (ps : List Piece) → Each P ps → Each P (edit_pieces i e ps)
  edit-all i (Edit.insert new) k ps h = go (any is_record (get_or (groups ps) i []))
    where
      go : (t : Bool) → Each P (pick t (in_groups i (Edit.insert new) ps) (in_front new ps))
      go true = each-groups i (Edit.insert new) k ps h
      go false = each_append P (map new_piece new) (newline_if ps ++ ps) (each_map P new_piece new k.1) (each-newline k.0 ps h)
  edit-all i (Edit.on j a) k ps h = each-groups i (Edit.on j a) k ps h

-- what an edit writes can be written
abbrev pub is_writable_edit : Edit → Bool
is_writable_edit (Edit.insert new) = all is_writable new
is_writable_edit (Edit.on j Act.delete) = true
is_writable_edit (Edit.on j (Act.add p)) = is_writable p
is_writable_edit (Edit.on j (Act.change n o (Change.value w))) = is_legal_value w
is_writable_edit (Edit.on j (Act.change n o Change.dropped)) = true
is_writable_edit (Edit.on j (Act.change n o (Change.name m))) = is_ordinary m

-- so it is of a legal one
pub legal-edit : (e : Edit) → is_legal_edit e ≡ true → is_writable_edit e ≡ true
legal-edit (Edit.insert ps) h = legals-writable ps h
legal-edit (Edit.on j Act.delete) h = refl
legal-edit (Edit.on j (Act.add p)) h = legal-writable p h
legal-edit (Edit.on j (Act.change n o (Change.value w))) h = h
legal-edit (Edit.on j (Act.change n o Change.dropped)) h = refl
legal-edit (Edit.on j (Act.change n o (Change.name m))) h = legal-ordinary m h

-- of each pair of such an insert
writable-pairs : (P : Pair → Type 0) → ((p : Pair) → is_writable p ≡ true → P p) → (ps : List Pair) → all is_writable ps ≡ true → Each P ps
writable-pairs P f ps e = each-imp (λ (p : Pair). is_writable p ≡ true) P f ps (all-each is_writable ps e)

-- its new names are ordinary
pub writable-names : (P : Bytes → Type 0) → ((n : Bytes) → is_ordinary n ≡ true → P n) → (e : Edit) → is_writable_edit e ≡ true → NewNames P e
writable-names P f (Edit.insert ps) h = writable-pairs (λ (p : Pair). P p.name) (λ p x. f p.name (writable-name p x)) ps h
writable-names P f (Edit.on j Act.delete) h = tt
writable-names P f (Edit.on j (Act.add p)) h = f p.name (writable-name p h)
writable-names P f (Edit.on j (Act.change n o (Change.value w))) h = tt
writable-names P f (Edit.on j (Act.change n o Change.dropped)) h = tt
writable-names P f (Edit.on j (Act.change n o (Change.name m))) h = f m h

-- its pieces are sound
change-sound : (n : Bytes) (j o : ℕ) (c : Change) → is_writable_edit (Edit.on j (Act.change n o c)) ≡ true → (q : Piece) → Sound q → Each Sound (change_piece c q)
change-sound n j o c h (Piece.blank l) s = (s, tt)
change-sound n j o c h (Piece.comment l) s = (s, tt)
change-sound n j o (Change.value w) h (Piece.field m v ls) s = (written-sound m w (sound-name m v ls s) (legal-joins w h), tt)
change-sound n j o Change.dropped h (Piece.field m v ls) s = tt
change-sound n j o (Change.name k) h (Piece.field m v ls) s = (sound-rename m v ls k (ordinary-is-name k h) s, tt)

pub keeps-sound : (e : Edit) → is_writable_edit e ≡ true → Keeps Sound e
keeps-sound (Edit.insert ps) h = (newline-sound, writable-pairs (λ (p : Pair). Sound (new_piece p)) writable-sound ps h)
keeps-sound (Edit.on j Act.delete) h = tt
keeps-sound (Edit.on j (Act.add p)) h = writable-sound p h
keeps-sound (Edit.on j (Act.change n o c)) h = change-sound n j o c h

-- a sound piece of allowed bytes
abbrev Allowed : Piece → Type 0
Allowed p = all is_allowed (bytes (lines_of p)) ≡ true

abbrev pub Proper : Piece → Type 0
Proper p = Sound p × Allowed p

new-proper : (p : Pair) → is_writable p ≡ true → Proper (new_piece p)
new-proper p h = (writable-sound p h, ap (all is_allowed) (written-bytes p) ∙ written-allowed p h)

set-allowed : (n w : Bytes) → is_name n ≡ true → is_legal_value w ≡ true → Allowed (new_piece (record { name = n; value = w }))
set-allowed n w a h =
    ap (all is_allowed) (written-bytes (record { name = n; value = w })) ∙ allowed-written n w ∙ (and-eq-true_iff (all is_allowed n) (all is_allowed w)).1 (name-allowed n a, legal-allowed w h)

change-proper : (n : Bytes) (j o : ℕ) (c : Change) → is_writable_edit (Edit.on j (Act.change n o c)) ≡ true → (q : Piece) → Proper q → Each Proper (change_piece c q)
change-proper n j o c h (Piece.blank l) s = (s, tt)
change-proper n j o c h (Piece.comment l) s = (s, tt)
change-proper n j o (Change.value w) h (Piece.field m v ls) s = (((change-sound n j o (Change.value w) h (Piece.field m v ls) s.0).0, set-allowed m w (sound-name m v ls s.0) h), tt)
change-proper n j o Change.dropped h (Piece.field m v ls) s = tt
change-proper n j o (Change.name k) h (Piece.field m v ls) s = (((change-sound n j o (Change.name k) h (Piece.field m v ls) s.0).0, allowed-rename m k ls (name-allowed k (ordinary-is-name k h)) s.1), tt)

keeps-proper : (e : Edit) → is_writable_edit e ≡ true → Keeps Proper e
keeps-proper (Edit.insert ps) h = ((newline-sound, refl), writable-pairs (λ (p : Pair). Proper (new_piece p)) new-proper ps h)
keeps-proper (Edit.on j Act.delete) h = tt
keeps-proper (Edit.on j (Act.add p)) h = new-proper p h
keeps-proper (Edit.on j (Act.change n o c)) h = change-proper n j o c h

-- sound pieces are proper where their bytes are allowed
lines-allowed : (ps : List Piece) → all is_allowed (bytes (all_lines ps)) ≡ all (λ (p : Piece). all is_allowed (bytes (lines_of p))) ps
lines-allowed [] = refl
lines-allowed (p ∷ ps) =
    ap (all is_allowed) (bytes-append (lines_of p) (all_lines ps)) ∙ all_append is_allowed (bytes (lines_of p)) (bytes (all_lines ps)) ∙ ap (λ (t : Bool). all is_allowed (bytes (lines_of p)) && t) (lines-allowed ps)

pieces-proper : (ps : List Piece) → Each Sound ps → all is_allowed (bytes_of ps) ≡ true → Each Proper ps
unfolding bytes_of
pieces-proper ps h e = each_both Sound Allowed ps h (all-each (λ (p : Piece). all is_allowed (bytes (lines_of p))) ps (sym (lines-allowed ps) ∙ e))

proper-allowed : (ps : List Piece) → Each Proper ps → all is_allowed (bytes_of ps) ≡ true
unfolding bytes_of
proper-allowed ps h = lines-allowed ps ∙ each_all (λ (p : Piece). all is_allowed (bytes (lines_of p))) ps (each-imp Proper Allowed (λ p s. s.1) ps h)

-- allowed bytes stay allowed
pub edit-allowed : (i : ℕ) (e : Edit) (ps : List Piece) → is_writable_edit e ≡ true → Each Sound ps → all is_allowed (bytes_of ps) ≡ true → all is_allowed (bytes_of (edit_pieces i e ps)) ≡ true
edit-allowed i e ps l s h = proper-allowed (edit_pieces i e ps) (edit-all Proper i e (keeps-proper e l) ps (pieces-proper ps s h))
