-- What is read beside a leaf of a graded table is what the definition of the cells says. Assumes nothing.
use mathlib.Core.Path.{◌≡◌, refl, ap, ap₂, sym, ◌∙◌, subst}
use mathlib.Core.Bool.{Bool, true, false, ◌&&◌, ◌||◌, and-false}
use mathlib.Core.List.{List}
use Prim.Native.Nat.{ℕ, zero, suc, ◌+◌, ◌/◌, ◌≤◌, ◌<◌}
use native.Mathlib.Omega.{arith}
use native.Mathlib.Decide.{dec_le}
use lib.Dec.{eqb}
use lib.ListN.{length, length-append}
use borrow.Author.Tests.{eq-eqb, le-ltb}
use Rattle.space.specs.Space.{Axis, ax, ay, az, Pos, next, frame}
use Rattle.octants.specs.Oct.{Tree, counts, parent, In, Closed, within}
use Rattle.lists.proofs.Bools.{clash, neither}
use Rattle.space.proofs.Space.{pos_eta, frame_eta}
use Rattle.octants.proofs.Near.{in_within}
use Rattle.octants.proofs.Least.{parent_inside}
use Rattle.octants.specs.Table.{read}
use Rattle.octree_cells.specs.Cells.{corner, middle, end, side, Side, split, equal, coarser, border, reaches, stepped, beside, face, Face, finer, cells_to, face_cells, leaf_cells}
use Rattle.octree_cells.specs.Leaf.{IsLeaf}
use Rattle.octree_cells.proofs.LeafSome.{whole_of}
use Rattle.octree_cells.proofs.Local.{split_at, edge_next, edge_last}
use Rattle.octree_cells.proofs.Sides.{beside_in_lem}
use Rattle.octree_cells.specs.Leaf.{turn_at}
use Rattle.octree_cells.proofs.LocalSide.{local_side, side_local, turn_local, under_split}
use Rattle.octree_cells.proofs.Counting.{cells_length}
use Rattle.octree_cells.proofs.Vertices.{side_is_split}
use Rattle.sides.specs.declared.Beside.{Beside}
use Rattle.sides.specs.declared.Edges.{Edges}
use Rattle.sides.specs.declared.Beside.TheVariants.{Split, Equal, Coarser, Border}
use Rattle.octree.specs.Parts.{level_at}
use Rattle.sides.specs.Parts.{told, beside_at, six, sides_at, split_in, either_in, equal_in, beside_in, pick_side, facing, level_of, around_of, given_at, given_by}

-- a level read is the tree's
pub split_read : (d : Pos) (l : ℕ) (s : List ℕ) (m : ℕ) (a : Axis) (u v w : ℕ)
    → split_in s (level_of d l m) a u v w ≡ split_at l d (read d l s) m (frame a u v w)
unfolding split_in read level_of level_at
split_read d l s zero a u v w = rw (le-ltb (frame a u v w ax) 0 (omega arith)) (sym (and-false (within (counts l d zero) (frame a u v w))))
split_read d l s (suc m) a u v w = refl

beside_frame : (a : Axis) (s : Bool) (x : Pos) → frame a (stepped s (x a)) (x (next a)) (x (next (next a))) ≡ beside a s x
beside_frame ax s x = refl
beside_frame ay s x = refl
beside_frame az s x = refl

parent_frame : (a : Axis) (s : Bool) (x : Pos) → frame a (stepped s (x a) / 2) (x (next a) / 2) (x (next (next a)) / 2) ≡ parent (beside a s x)
parent_frame ax s x = pos_eta (parent (beside ax s x))
parent_frame ay s x = pos_eta (parent (beside ay s x))
parent_frame az s x = pos_eta (parent (beside az s x))

module _ (d : Pos) (l : ℕ) (s : List ℕ) (c : Closed l d (read d l s)) (m : ℕ) (x : Pos) (a : Axis) (high : Bool)
    (leaf : IsLeaf l d (read d l s) m x) where
  abbrev t : Tree
  t = read d l s

  abbrev i : ℕ
  i = x a

  abbrev j : ℕ
  j = x (next a)

  abbrev k : ℕ
  k = x (next (next a))

  -- the neighbour's split, read
  own_bit : reaches (counts l d m a) high i ≡ true → split_in s (level_of d l m) a (stepped high i) j k ≡ t m (beside a high x)
  own_bit r =
      split_read d l s m a _ _ _ ∙ ap (split_at l d t m) (beside_frame a high x)
      ∙ ap (λ (b : Bool). b && t m (beside a high x)) (in_within _ (beside a high x) (beside_in_lem (counts l d m) a high x leaf.inside r))

  -- its parent's, below the roots
  parent_bit : reaches (counts l d m a) high i ≡ true → m < l
      → split_in s (level_of d l (suc m)) a (stepped high i / 2) (j / 2) (k / 2) ≡ t (suc m) (parent (beside a high x))
  parent_bit r h =
      split_read d l s (suc m) a _ _ _ ∙ ap (split_at l d t (suc m)) (parent_frame a high x)
      ∙ ap (λ (b : Bool). b && t (suc m) (parent (beside a high x)))
      (in_within _ (parent (beside a high x)) (parent_inside l d m (beside a high x) h (beside_in_lem (counts l d m) a high x leaf.inside r)))

  root_or : (q : Bool) → (m < l → q ≡ t (suc m) (parent (beside a high x)))
      → eqb m l || q ≡ eqb m l || t (suc m) (parent (beside a high x))
  root_or q f = go (dec_le l m)
    where
      go : Dec (l ≤ m) → eqb m l || q ≡ eqb m l || t (suc m) (parent (beside a high x))
      go (yes h) =
          let e : eqb m l ≡ true = eq-eqb m l (omega (arith, leaf.fits)) in
          ap (λ (b : Bool). b || q) e ∙ sym (ap (λ (b : Bool). b || t (suc m) (parent (beside a high x))) e)
      go (no h) = ap (λ (b : Bool). eqb m l || b) (f (omega arith))

  below : Dec (l ≤ m) → eqb m l ≡ false → m < l
  below (yes h) e = clash (eq-eqb m l (omega (arith, leaf.fits))) e
  below (no h) e = omega arith

  -- by cases, with what each case knows
  told_local : (r b p : Bool) (E : Beside) → reaches (counts l d m a) high i ≡ r → eqb m l || t (suc m) (parent (beside a high x)) ≡ p
      → (r ≡ true → b ≡ false → E ≡ told (finer l d t m) m x a high equal)
      → pick_side r (pick_side b Split (pick_side p E (Coarser (turn_at j k)))) Border
      ≡ told (finer l d t m) m x a high (local_side r b p (coarser (suc m) (parent (beside a high x))))
  told_local false b p E er ep eq = refl
  told_local true true p E er ep eq = refl
  told_local true false true E er ep eq = eq refl refl
  told_local true false false E er ep eq =
      let q = neither (eqb m l) (t (suc m) (parent (beside a high x))) ep in
      let h : m < l = below (dec_le l m) q.0 in
      ap Coarser (sym (turn_local t m x a high (counts l d m a) er (under_split l d t c m x a high leaf h) q.1))

  -- the two octants beside an edge, the leaf's own neighbour being whole
  spare : (p q r : Bool) → p ≡ false → p || q || r ≡ q || r
  spare p q r e = rw e

  either_read : (v w : ℕ) → either_in s (level_of d l m) a i v w ≡ split_at l d t m (frame a i v w) || split_at l d t m (frame a (i + 1) v w)
  unfolding either_in
  either_read v w = ap₂ (λ (p q : Bool). p || q) (split_read d l s m a i v w) (split_read d l s m a (i + 1) v w)

  no_bytes : (v w : ℕ) → m ≡ 0 → either_in s (level_of d l m) a i v w ≡ false
  no_bytes v w e =
      either_read v w
      ∙ ap (λ (n : ℕ). split_at l d t n (frame a i v w) || split_at l d t n (frame a (i + 1) v w)) e
      ∙ ap₂ (λ (p q : Bool). (within (counts l d 0) (frame a i v w) && p) || (within (counts l d 0) (frame a (i + 1) v w) && q)) (c.finest _) (c.finest _)
      ∙ ap₂ (λ (p q : Bool). p || q) (and-false (within (counts l d 0) (frame a i v w))) (and-false (within (counts l d 0) (frame a (i + 1) v w)))

-- the midpoints of the face's edges, from a neighbour of equal level, by the two octants beside each
module _ (d : Pos) (l : ℕ) (s : List ℕ) (c : Closed l d (read d l s)) (x : Pos) (a : Axis) where
  module _ (n : ℕ) (leaf : IsLeaf l d (read d l s) (suc n) x) where
    here : frame a (x a) (x (next a)) (x (next (next a))) ≡ x
    here = frame_eta a x

    inside : In l d (suc n) (frame a (x a) (x (next a)) (x (next (next a))))
    inside = subst (In l d (suc n)) (sym here) leaf.inside

    unsplit : read d l s (suc n) (frame a (x a) (x (next a)) (x (next (next a)))) ≡ false
    unsplit = ap (read d l s (suc n)) here ∙ whole_of l d (read d l s) (suc n) x leaf

    abbrev fine_at : Pos → Pos → Bool
    fine_at o p = finer l d (read d l s) (suc n) (middle (corner (suc n) x o) (corner (suc n) x p))

    abbrev at3 : ℕ → ℕ → ℕ → Bool
    at3 u v w = split_at l d (read d l s) (suc n) (frame a u v w)

    moved : (o p : Pos) → fine_at o p
        ≡ finer l d (read d l s) (suc n) (middle (corner (suc n) (frame a (x a) (x (next a)) (x (next (next a)))) o) (corner (suc n) (frame a (x a) (x (next a)) (x (next (next a)))) p))
    moved o p = ap (λ (y : Pos). finer l d (read d l s) (suc n) (middle (corner (suc n) y o) (corner (suc n) y p))) (sym here)

    -- along the next axis, and along the last
    along_next : (b r : Bool) (f f' : ℕ) → f + f' ≡ 1 → fine_at (frame a (end b) f (end r)) (frame a (end b) f' (end r))
        ≡ at3 (stepped b (x a)) (x (next a)) (x (next (next a))) || at3 (x a) (x (next a)) (stepped r (x (next (next a))))
        || at3 (stepped b (x a)) (x (next a)) (stepped r (x (next (next a))))
    along_next b r f f' e =
        moved _ _ ∙ edge_next l d (read d l s) c n leaf.fits a (x a) (x (next a)) (x (next (next a))) inside unsplit b r f f' e

    along_last : (b r : Bool) (f f' : ℕ) → f + f' ≡ 1 → fine_at (frame a (end b) (end r) f) (frame a (end b) (end r) f')
        ≡ at3 (stepped b (x a)) (x (next a)) (x (next (next a))) || at3 (x a) (stepped r (x (next a))) (x (next (next a)))
        || at3 (stepped b (x a)) (stepped r (x (next a))) (x (next (next a)))
    along_last b r f f' e =
        moved _ _ ∙ edge_last l d (read d l s) c n leaf.fits a (x a) (x (next a)) (x (next (next a))) inside unsplit b r f f' e

    module _ (h : read d l s (suc n) (beside a true x) ≡ false) where
      beside_whole : at3 (x a + 1) (x (next a)) (x (next (next a))) ≡ false
      beside_whole =
          ap (split_at l d (read d l s) (suc n)) (beside_frame a true x)
          ∙ ap (λ (b : Bool). within (counts l d (suc n)) (beside a true x) && b) h ∙ and-false (within (counts l d (suc n)) (beside a true x))

      next_edge : (r : Bool) (f f' : ℕ) → f + f' ≡ 1 → fine_at (frame a 1 f (end r)) (frame a 1 f' (end r))
          ≡ either_in s (level_of d l (suc n)) a (x a) (x (next a)) (stepped r (x (next (next a))))
      next_edge r f f' e =
          along_next true r f f' e
          ∙ spare d l s c (suc n) x a true leaf _ _ _ beside_whole
          ∙ sym (either_read d l s c (suc n) x a true leaf _ _)

      last_edge : (r : Bool) (f f' : ℕ) → f + f' ≡ 1 → fine_at (frame a 1 (end r) f) (frame a 1 (end r) f')
          ≡ either_in s (level_of d l (suc n)) a (x a) (stepped r (x (next a))) (x (next (next a)))
      last_edge r f f' e =
          along_last true r f f' e
          ∙ spare d l s c (suc n) x a true leaf _ _ _ beside_whole
          ∙ sym (either_read d l s c (suc n) x a true leaf _ _)

    -- a split neighbour puts a finer vertex on each edge of the face between
    module _ (b : Bool) (r : reaches (counts l d (suc n) a) b (x a) ≡ true) (h : read d l s (suc n) (beside a b x) ≡ true) where
      beside_split : at3 (stepped b (x a)) (x (next a)) (x (next (next a))) ≡ true
      beside_split =
          ap (split_at l d (read d l s) (suc n)) (beside_frame a b x)
          ∙ ap₂ (λ (p q : Bool). p && q) (in_within _ (beside a b x) (beside_in_lem (counts l d (suc n)) a b x leaf.inside r)) h

      first_true : (p q z : Bool) → p ≡ true → p || q || z ≡ true
      first_true p q z e = rw e

      split_next : (r : Bool) (f f' : ℕ) → f + f' ≡ 1 → fine_at (frame a (end b) f (end r)) (frame a (end b) f' (end r)) ≡ true
      split_next r f f' e = along_next b r f f' e ∙ first_true _ _ _ beside_split

      split_last : (r : Bool) (f f' : ℕ) → f + f' ≡ 1 → fine_at (frame a (end b) (end r) f) (frame a (end b) (end r) f') ≡ true
      split_last r f f' e = along_last b r f f' e ∙ first_true _ _ _ beside_split

-- all four edges of a face have a finer vertex
pub record AllFine (fine : Pos → Bool) (f : Face) : Type 0 where
  pub e0 : fine (middle f.p0 f.p1) ≡ true
  pub e1 : fine (middle f.p1 f.p2) ≡ true
  pub e2 : fine (middle f.p2 f.p3) ≡ true
  pub e3 : fine (middle f.p3 f.p0) ≡ true

four : {p q : Edges} → p.e0 ≡ q.e0 → p.e1 ≡ q.e1 → p.e2 ≡ q.e2 → p.e3 ≡ q.e3 → Equal p ≡ Equal q
four h0 h1 h2 h3 = ap Equal (rw (h0, h1, h2, h3) refl)

module _ (d : Pos) (l : ℕ) (s : List ℕ) (c : Closed l d (read d l s)) where
  equal_read : (m : ℕ) (x : Pos) (a : Axis) (high : Bool) → IsLeaf l d (read d l s) m x → read d l s m (beside a high x) ≡ false
      → equal_in s (level_of d l m) a (x a) (x (next a)) (x (next (next a))) high ≡ told (finer l d (read d l s) m) m x a high equal
  unfolding equal_in finer
  equal_read m x a false leaf h = refl
  equal_read zero x a true leaf h =
      four (no_bytes d l s c zero x a true leaf _ _ refl) (no_bytes d l s c zero x a true leaf _ _ refl) (no_bytes d l s c zero x a true leaf _ _ refl)
      (no_bytes d l s c zero x a true leaf _ _ refl)
  equal_read (suc n) x a true leaf h =
      sym (four (next_edge d l s c x a n leaf h false 0 1 refl) (last_edge d l s c x a n leaf h true 0 1 refl) (next_edge d l s c x a n leaf h true 1 0 refl)
      (last_edge d l s c x a n leaf h false 1 0 refl))

  -- a leaf's side, read
  pub beside_read : (m : ℕ) (x : Pos) (a : Axis) (high : Bool) → IsLeaf l d (read d l s) m x
      → facing s (around_of d l m) (counts l d m) x a high ≡ beside_at l d (read d l s) m x a high
  unfolding beside_in
  beside_read m x a high leaf =
      go (reaches (counts l d m a) high (x a)) refl
      ∙ ap (told (finer l d (read d l s) m) m x a high) (sym (side_local l d (read d l s) c m x a high leaf))
    where
      E : Beside
      E = equal_in s (level_of d l m) a (x a) (x (next a)) (x (next (next a))) high

      other : Side
      other = coarser (suc m) (parent (beside a high x))

      go : (r : Bool) → reaches (counts l d m a) high (x a) ≡ r
          → facing s (around_of d l m) (counts l d m) x a high
          ≡ told (finer l d (read d l s) m) m x a high
          (local_side (reaches (counts l d m a) high (x a)) (read d l s m (beside a high x)) (eqb m l || read d l s (suc m) (parent (beside a high x))) other)
      go true er =
          ap₂ (λ (b p : Bool). pick_side (reaches (counts l d m a) high (x a)) (pick_side b Split (pick_side p E (Coarser (turn_at (x (next a)) (x (next (next a))))))) Border)
          (own_bit d l s c m x a high leaf er) (root_or d l s c m x a high leaf _ (parent_bit d l s c m x a high leaf er))
          ∙ told_local d l s c m x a high leaf (reaches (counts l d m a) high (x a)) (read d l s m (beside a high x)) _ E refl refl (λ r b. equal_read m x a high leaf b)
      go false er = rw er

  -- where the neighbour is split, every edge of the face has a finer vertex
  pub split_fine : (m : ℕ) (x : Pos) (a : Axis) (high : Bool) → IsLeaf l d (read d l s) m x → side l d (read d l s) m x a high ≡ split
      → AllFine (finer l d (read d l s) m) (face m x a high)
  split_fine m x a high leaf e = let r = side_is_split l d (read d l s) m x a high e in go m leaf r.0 r.1
    where
      go : (m : ℕ) → IsLeaf l d (read d l s) m x → reaches (counts l d m a) high (x a) ≡ true → read d l s m (beside a high x) ≡ true
          → AllFine (finer l d (read d l s) m) (face m x a high)
      go zero f p q = clash q (c.finest _)
      go (suc n) f p q = record {
        e0 = split_next d l s c x a n f high p q false 0 1 refl;
        e1 = split_last d l s c x a n f high p q true 0 1 refl;
        e2 = split_next d l s c x a n f high p q true 1 0 refl;
        e3 = split_last d l s c x a n f high p q false 1 0 refl;
      }

  -- how many cells a face gives
  count_told : (m : ℕ) (x : Pos) (a : Axis) (high : Bool) (b : Side) → (b ≡ split → AllFine (finer l d (read d l s) m) (face m x a high))
      → length (cells_to (finer l d (read d l s) m) m x a high b) ≡ given_at (told (finer l d (read d l s) m) m x a high b)
  count_told m x a high split f =
      let g = f refl in
      cells_length (finer l d (read d l s) m) m x a high split ∙ rw (g.e0, g.e1, g.e2, g.e3)
  count_told m x a false equal f = cells_length (finer l d (read d l s) m) m x a false equal
  count_told m x a true equal f = cells_length (finer l d (read d l s) m) m x a true equal ∙ omega arith
  count_told m x a high (coarser n z) f = cells_length (finer l d (read d l s) m) m x a high (coarser n z)
  count_told m x a high border f = cells_length (finer l d (read d l s) m) m x a high border

  face_count : (m : ℕ) (x : Pos) (a : Axis) (high : Bool) → IsLeaf l d (read d l s) m x
      → length (face_cells l d (read d l s) m x a high) ≡ given_at (beside_at l d (read d l s) m x a high)
  face_count m x a high leaf = count_told m x a high (side l d (read d l s) m x a high) (split_fine m x a high leaf)

  pub leaf_count : (m : ℕ) (x : Pos) → IsLeaf l d (read d l s) m x
      → length (leaf_cells l d (read d l s) m x) ≡ given_by (sides_at l d (read d l s) m x)
  unfolding leaf_cells given_by sides_at
  leaf_count m x leaf =
      simp length-append
      (rw (face_count m x ax false leaf, face_count m x ax true leaf, face_count m x ay false leaf, face_count m x ay true leaf, face_count m x az false leaf, face_count m x az true leaf)
      refl)

-- the six sides, read
pub sides_read : (d : Pos) (l : ℕ) (s : List ℕ) (c : Closed l d (read d l s)) (m : ℕ) (x : Pos) → IsLeaf l d (read d l s) m x
    → six (facing s (around_of d l m) (counts l d m) x) ≡ sides_at l d (read d l s) m x
unfolding sides_at
sides_read d l s c m x leaf =
    let b = beside_read d l s c m x in
    rw (b ax false leaf, b ax true leaf, b ay false leaf, b ay true leaf, b az false leaf, b az true leaf) refl
