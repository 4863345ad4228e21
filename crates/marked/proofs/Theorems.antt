-- What keeping of marked cells means: the cells that stay are the marked ones that are not dropped, in their order, each as its verdict
-- leaves it; a compacted cell names points with the same bits as before; points are used, once each, and in the order of first use; and
-- the counts count. Assumes nothing.
use mathlib.Core.Path.{◌≡◌, refl, sym, ap, subst, ◌∙◌}
use mathlib.Core.Logic.{◌⊎◌, inl, inr, ◌≢◌, ◌↔◌}
use mathlib.Core.Bool.{Bool, true, false, cond, not, ◌&&◌, true≢false}
use mathlib.Core.List.{List, [], ◌∷◌}
use Prim.Native.Nat.{ℕ, ◌+◌, ◌*◌, ◌<◌}
use native.Mathlib.Nat.{not-suc-le-zero}
use native.Mathlib.Omega.{arith}
use lib.Ieee.{Float}
use lib.ListN.{length, get_or, drop, get_or-append}
use Rattle.std.specs.Prelude.{Result, Ok}
use Rattle.lists.specs.Appearance.{place, seen_of}
use Rattle.lists.specs.Runs.{those, spread}
use Rattle.lists.specs.Tables.{front, on}
use Rattle.lists.proofs.Bools.{and_left, and_right, both_and}
use Rattle.lists.proofs.Cases.{eq_or}
use Rattle.lists.proofs.Lent.{as_new}
use Rattle.lists.proofs.Listing.{map_at}
use Rattle.lists.proofs.Appearing.{place_head, place_tail, place_le, number_at, number_next, same_number}
use Rattle.lists.proofs.Running.{run_same}
use Rattle.lists.proofs.Passing.{those_pass, those_all, those_rise, spread_those, spread_length, spread_at}
use Rattle.mesh.specs.Mesh.{cells_of, cell_of, in_order, exchanged}
use Rattle.mesh.specs.declared.Cell.{Cell}
use Rattle.volume.specs.Volume.{verdict_at}
use Rattle.volume.specs.declared.Verdict.{Verdict}
use Rattle.volume.specs.declared.Verdict.TheVariants as verdict
use Rattle.marked.specs.Weighed.{shaped, is_dropped, shape_at, drops_at, final_cells, dropped_count}
use Rattle.marked.specs.Used.{used_of, renumbered, points_at}
use Rattle.marked.specs.Kept.{number_of, values_of, points_kept, cells_kept, kept_of}
use Rattle.marked.specs.Parts.{KeptMarked}
use Rattle.marked.specs.declared.Kept.{Kept}
use Rattle.marked.specs.declared.KeepError.{KeepError}
use Rattle.marked.proofs.Using.{uses_here, renumbered_length, used_seen, renumbered_at, seen_from}
use Rattle.marked.proofs.Counting.{Many, many_those, both_counted}
use Rattle.marked.proofs.Placing.{points_length, points_at_lem}
use Rattle.marked.proofs.WaysOut.{done_is}

-- ---- which cells stay

-- a cell as its verdict leaves it: with its first two vertices exchanged, or as it is
unfoldable pub oriented : Verdict → Cell → Cell
oriented (verdict.Kept v) k = k
oriented (verdict.Exchanged v) k = exchanged k
oriented (verdict.Dropped v) k = k

-- the four vertices of the cell i, as its verdict leaves them
unfoldable pub vertices_of : Float → List ℕ → List ℕ → ℕ → List ℕ
vertices_of least P C i = in_order (oriented (verdict_at P C i least) (cell_of C i))

four_vertices : (least : Float) (P C : List ℕ) (i : ℕ) → length (vertices_of least P C i) ≡ 4
unfolding vertices_of in_order
four_vertices least P C i = refl

module _ (mark : ℕ → Bool) (least : Float) (P C : List ℕ) where
  -- a cell stays where it is marked and not dropped
  abbrev pub stays : ℕ → Bool
  stays i = mark i && not (is_dropped (verdict_at P C i least))

  shape_stays : (i : ℕ) → shape_at (mark i) least P C i ≡ cond (stays i) (vertices_of least P C i) []
  unfolding shape_at shaped is_dropped oriented vertices_of
  shape_stays i = go (mark i) (verdict_at P C i least)
    where
      go : (b : Bool) (v : Verdict) → cond b (shaped v (cell_of C i)) [] ≡ cond (b && not (is_dropped v)) (in_order (oriented v (cell_of C i))) []
      go false v = refl
      go true (verdict.Kept x) = refl
      go true (verdict.Exchanged x) = refl
      go true (verdict.Dropped x) = refl

  -- the final cells are those of the cells that stay, in order
  pub cells_stay : (n : ℕ) → final_cells mark least P C n ≡ spread (vertices_of least P C) (those stays n)
  unfolding final_cells
  cells_stay n =
      run_same n (λ i. shape_at (mark i) least P C i) (λ i. cond (stays i) (vertices_of least P C i) []) 0 (λ i a b. shape_stays i)
      ∙ spread_those (vertices_of least P C) stays n

-- ---- compaction

place_at : (x : ℕ) (s : List ℕ) → place x s < length s → get_or s (place x s) 0 ≡ x
place_at x [] h = absurd (not-suc-le-zero h)
place_at x (y ∷ s) h = go (place_at x s) (eq_or x y)
  where
    go : (place x s < length s → get_or s (place x s) 0 ≡ x) → (x ≡ y) ⊎ (x ≢ y) → get_or (y ∷ s) (place x (y ∷ s)) 0 ≡ x
    go ih (inl e) = ap (λ (k : ℕ). get_or (y ∷ s) k 0) (place_head x y s e) ∙ sym e
    go ih (inr d) = ap (λ (k : ℕ). get_or (y ∷ s) k 0) (place_tail x y s d) ∙ ih (omega (arith, place_tail x y s d))

module _ (F : List ℕ) where
  module _ (k : ℕ) (h : k < length F) where
    -- a number of the compacted cells is below the number of points
    pub number_below : get_or (renumbered F) k 0 < length (used_of F)
    unfolding renumbered used_of
    number_below = omega (arith, map_at (λ v. place v (used_of F)) F 0 0 k h, uses_here F [] k h)

    -- and names the point that stood there
    pub names_same : get_or (used_of F) (get_or (renumbered F) k 0) 0 ≡ get_or F k 0
    unfolding renumbered used_of
    names_same =
        ap (λ (m : ℕ). get_or (used_of F) m 0) (map_at (λ v. place v (used_of F)) F 0 0 k h) ∙ place_at (get_or F k 0) (used_of F) (uses_here F [] k h)

    -- with the same bits
    pub bits_same : (P : List ℕ) (a : ℕ) → a < 3 → get_or (points_at P (used_of F)) (3 * get_or (renumbered F) k 0 + a) 0 ≡ get_or P (3 * get_or F k 0 + a) 0
    bits_same P a b =
        points_at_lem P (used_of F) (get_or (renumbered F) k 0) a number_below b ∙ ap (λ (m : ℕ). get_or P (3 * m + a) 0) names_same

  abbrev named : ℕ → ℕ
  named i = get_or F i 0

  -- each point is named
  pub number_used : (v : ℕ) → v < length (used_of F) → (i : ℕ) × (i < length F) × (get_or (renumbered F) i 0 ≡ v)
  number_used v h =
      let r = seen_from named (length F) v (omega (arith, ap length (used_seen F))) in
      (r.0, r.1, renumbered_at F r.0 r.1 ∙ number_at named (length F) r.0 r.1 ∙ r.2)

  -- and stands once: numbers are equal exactly where the points named before are
  pub numbers_once : (i j : ℕ) → i < length F → j < length F → (get_or (renumbered F) i 0 ≡ get_or (renumbered F) j 0) ↔ (get_or F i 0 ≡ get_or F j 0)
  numbers_once i j hi hj =
      let s = same_number named (length F) i j hi hj in (
        λ e. s.0 (sym (renumbered_at F i hi) ∙ e ∙ renumbered_at F j hj),
        λ e. renumbered_at F i hi ∙ s.1 e ∙ sym (renumbered_at F j hj),
      )

  -- in the order of first use: where a number stands, all lower ones stand before it
  pub numbers_first : (i v : ℕ) → i < length F → v < get_or (renumbered F) i 0 → (j : ℕ) × (j < i) × (get_or (renumbered F) j 0 ≡ v)
  numbers_first i v h b =
      let at : get_or (renumbered F) i 0 ≡ place (named i) (seen_of named i) = renumbered_at F i h ∙ number_next named (length F) i h in
      let r = seen_from named i v (omega (arith, place_le (named i) (seen_of named i))) in
      let g : r.0 < length F = omega (arith, r.1) in (
        r.0,
        r.1,
        renumbered_at F r.0 g ∙ number_next named (length F) r.0 g ∙ sym (number_next named i r.0 r.1) ∙ number_at named i r.0 r.1 ∙ r.2,
      )

-- ---- the mesh that is kept, whole

dropped_is : (v : Verdict) → is_dropped v ≡ true → (x : Float) × (v ≡ verdict.Dropped x)
unfolding is_dropped
dropped_is (verdict.Kept x) e = absurd (true≢false (sym e))
dropped_is (verdict.Exchanged x) e = absurd (true≢false (sym e))
dropped_is (verdict.Dropped x) e = (x, refl)

is_dropped_lem : (v : Verdict) (x : Float) → v ≡ verdict.Dropped x → is_dropped v ≡ true
unfolding is_dropped
is_dropped_lem v x e = ap is_dropped e

stays_not : (v : Verdict) → ((x : Float) → v ≢ verdict.Dropped x) → not (is_dropped v) ≡ true
unfolding is_dropped
stays_not (verdict.Kept x) h = refl
stays_not (verdict.Exchanged x) h = refl
stays_not (verdict.Dropped x) h = absurd (h x refl)

not_dropped : (v : Verdict) → not (is_dropped v) ≡ true → (x : Float) → v ≢ verdict.Dropped x
not_dropped v h x e = true≢false (sym h ∙ ap not (is_dropped_lem v x e))

module _ (mark : ℕ → Bool) (least : Float) (P C : List ℕ) where
  abbrev pub MarkedAt : ℕ → Type 0
  MarkedAt i = mark i ≡ true

  -- marked, and dropped by its verdict
  abbrev pub DroppedAt : ℕ → Type 0
  DroppedAt i = (mark i ≡ true) × ((x : Float) × (verdict_at P C i least ≡ verdict.Dropped x))

  -- marked, and not dropped
  abbrev pub StayingAt : ℕ → Type 0
  StayingAt i = (mark i ≡ true) × ((x : Float) → verdict_at P C i least ≢ verdict.Dropped x)

  -- the cells that stay, ascending, and the vertices of all of them
  abbrev pub staying : List ℕ
  staying = those (stays mark least P C) (cells_of C)

  abbrev pub vertices : List ℕ
  vertices = spread (vertices_of least P C) staying

  -- the mesh in the tables p and q
  pub record Whole (points cells dropped : ℕ) (p q : List ℕ) : Type 0 where
    -- the list of the cells that stay has these and no other, ascending
    pub kept : (k : ℕ) → k < cells → (get_or staying k 0 < cells_of C) × StayingAt (get_or staying k 0)
    pub every : (i : ℕ) → i < cells_of C → StayingAt i → (k : ℕ) × (k < cells) × (get_or staying k 0 ≡ i)
    pub rising : (j k : ℕ) → j < k → k < cells → get_or staying j 0 < get_or staying k 0
    -- cell k is the k-th that stays: each vertex names a point of the mesh, with the bits of the point that it named
    pub there : (k a : ℕ) → k < cells → a < 4 → get_or q (4 * k + a) 0 < points
    pub bits : (k a b : ℕ) → k < cells → a < 4 → b < 3
        → get_or p (3 * get_or q (4 * k + a) 0 + b) 0 ≡ get_or P (3 * get_or (vertices_of least P C (get_or staying k 0)) a 0 + b) 0
    -- each point is used, and stands once
    pub used : (v : ℕ) → v < points → (i : ℕ) × (i < 4 * cells) × (get_or q i 0 ≡ v)
    pub once : (i j : ℕ) → i < 4 * cells → j < 4 * cells → (get_or q i 0 ≡ get_or q j 0) ↔ (get_or vertices i 0 ≡ get_or vertices j 0)
    -- in the order of first use: where a number stands, all lower ones stand before it
    pub in_order_lem : (i v : ℕ) → i < 4 * cells → v < get_or q i 0 → (j : ℕ) × (j < i) × (get_or q j 0 ≡ v)
    -- and nothing else: so many cells stay, so many are dropped, and these are all that are marked
    pub stay : Many StayingAt (cells_of C) cells
    pub drops : Many DroppedAt (cells_of C) dropped
    pub marks : Many MarkedAt (cells_of C) (cells + dropped)

  stays_means : (i : ℕ) → (stays mark least P C i ≡ true) ↔ StayingAt i
  stays_means i =
      let d : Bool = not (is_dropped (verdict_at P C i least)) in (
        λ t. (and_left (mark i) d t, not_dropped (verdict_at P C i least) (and_right (mark i) d t)),
        λ s. both_and (mark i) d s.0 (stays_not (verdict_at P C i least) s.1),
      )

  abbrev lost : ℕ
  lost = dropped_count mark least P C (cells_of C)

  many_drop : Many DroppedAt (cells_of C) lost
  unfolding dropped_count drops_at
  many_drop =
      many_those (λ i. mark i && is_dropped (verdict_at P C i least)) DroppedAt
      (λ i.
      let d : Bool = is_dropped (verdict_at P C i least) in (
        λ t. (and_left (mark i) d t, dropped_is (verdict_at P C i least) (and_right (mark i) d t)),
        λ s. both_and (mark i) d s.0 (is_dropped_lem (verdict_at P C i least) s.1.0 s.1.1),
      ))
      (cells_of C)

  many_marked : Many MarkedAt (cells_of C) (length staying + lost)
  unfolding dropped_count drops_at
  many_marked =
      subst (Many MarkedAt (cells_of C)) (sym (both_counted mark (λ i. is_dropped (verdict_at P C i least)) (cells_of C)))
      (many_those mark MarkedAt (λ i. (λ e. e, λ e. e)) (cells_of C))

  abbrev final : List ℕ
  final = final_cells mark least P C (cells_of C)

  final_length : length final ≡ 4 * length staying
  final_length =
      ap length (cells_stay mark least P C (cells_of C)) ∙ spread_length (vertices_of least P C) 4 (four_vertices least P C) staying

  final_at : (k a : ℕ) → k < length staying → a < 4 → get_or final (4 * k + a) 0 ≡ get_or (vertices_of least P C (get_or staying k 0)) a 0
  final_at k a h b =
      ap (λ (l : List ℕ). get_or l (4 * k + a) 0) (cells_stay mark least P C (cells_of C))
      ∙ spread_at (vertices_of least P C) 4 (four_vertices least P C) staying k a h b

  module _ {points cells dropped : ℕ} {p q p' q' : List ℕ} {r : Result Kept KeepError} (w : KeptMarked P C mark least p q r p' q')
      (e : r ≡ Ok (record { points = points; cells = cells; dropped = dropped })) where
    done : kept_of final lost p q ≡ Ok (record { points = points; cells = cells; dropped = dropped })
    done = sym w.answer ∙ e

    number_zero : number_of (kept_of final lost p q) ≡ 0
    number_zero = ap number_of done

    values : points ∷ cells ∷ dropped ∷ [] ≡ points_kept final ∷ cells_kept final ∷ lost ∷ []
    values = ap values_of (sym done ∙ done_is final lost p q number_zero)

    points_is : points ≡ length (used_of final)
    points_is = ap (λ (l : List ℕ). get_or l 0 0) values

    cells_is : cells ≡ length staying
    cells_is = let c : cells ≡ cells_kept final = ap (λ (l : List ℕ). get_or l 1 0) values in omega (arith, final_length)

    dropped_same : dropped ≡ lost
    dropped_same = ap (λ (l : List ℕ). get_or l 2 0) values

    inside : {i : ℕ} → i < 4 * cells → i < length final
    inside h = omega (arith, cells_is, final_length)

    cell_at_lem : (i : ℕ) → i < 4 * cells → get_or q' i 0 ≡ get_or (renumbered final) i 0
    cell_at_lem i h =
        ap (λ (l : List ℕ). get_or l i 0)
        (w.cells ∙ ap (λ (n : ℕ). on (0 ∷ []) n (front (4 * cells_kept final) (renumbered final) q) q) number_zero ∙ as_new [] _ q)
        ∙ get_or-append (renumbered final) (drop (4 * cells_kept final) q) 0 i (omega (arith, inside h, renumbered_length final))

    point_at : (i : ℕ) → i < 3 * length (used_of final) → get_or p' i 0 ≡ get_or (points_at P (used_of final)) i 0
    point_at i h =
        ap (λ (l : List ℕ). get_or l i 0)
        (w.points ∙ ap (λ (n : ℕ). on (0 ∷ []) n (front (3 * points_kept final) (points_at P (used_of final)) p) p) number_zero ∙ as_new [] _ p)
        ∙ get_or-append (points_at P (used_of final)) (drop (3 * points_kept final) p) 0 i (omega (arith, points_length P (used_of final)))

    bits_at : (k a b : ℕ) → k < cells → a < 4 → b < 3
        → get_or p' (3 * get_or q' (4 * k + a) 0 + b) 0 ≡ get_or P (3 * get_or (vertices_of least P C (get_or staying k 0)) a 0 + b) 0
    bits_at k a b hk ha hb =
        let i : 4 * k + a < 4 * cells = omega arith in
        let n : get_or (renumbered final) (4 * k + a) 0 < length (used_of final) = number_below final (4 * k + a) (inside i) in
        ap (λ (m : ℕ). get_or p' (3 * m + b) 0) (cell_at_lem (4 * k + a) i)
        ∙ point_at (3 * get_or (renumbered final) (4 * k + a) 0 + b) (omega arith)
        ∙ bits_same final (4 * k + a) (inside i) P b hb
        ∙ ap (λ (m : ℕ). get_or P (3 * m + b) 0) (final_at k a (omega (arith, cells_is)) ha)

    -- an answer's tables hold the mesh
    pub kept_whole : Whole points cells dropped p' q'
    kept_whole = record {
      kept = λ k h.
          let t = those_pass (stays mark least P C) (cells_of C) k (omega (arith, cells_is)) in
          (t.0, (stays_means (get_or staying k 0)).0 t.1);
      every = λ i h s.
          let t = those_all (stays mark least P C) (cells_of C) i h ((stays_means i).1 s) in
          (t.0, omega (arith, t.1, cells_is), t.2);
      rising = λ j k a h. those_rise (stays mark least P C) (cells_of C) j k a (omega (arith, cells_is));
      there = λ k a hk ha.
          let i : 4 * k + a < 4 * cells = omega arith in
          omega (arith, cell_at_lem (4 * k + a) i, number_below final (4 * k + a) (inside i), points_is);
      bits = bits_at;
      used = λ v h.
          let u = number_used final v (omega (arith, points_is)) in
          let i : u.0 < 4 * cells = omega (arith, u.1, cells_is, final_length) in
          (u.0, i, cell_at_lem u.0 i ∙ u.2);
      once = λ i j hi hj.
          let s = numbers_once final i j (inside hi) (inside hj) in
          subst (λ (l : List ℕ). (get_or q' i 0 ≡ get_or q' j 0) ↔ (get_or l i 0 ≡ get_or l j 0)) (cells_stay mark least P C (cells_of C))
          (λ x. s.0 (sym (cell_at_lem i hi) ∙ x ∙ cell_at_lem j hj), λ x. cell_at_lem i hi ∙ s.1 x ∙ sym (cell_at_lem j hj));
      in_order_lem = λ i v hi h.
          let f = numbers_first final i v (inside hi) (omega (arith, cell_at_lem i hi)) in
          (f.0, f.1, cell_at_lem f.0 (omega (arith, f.1)) ∙ f.2);
      stay = subst (Many StayingAt (cells_of C)) (sym cells_is) (many_those (stays mark least P C) StayingAt stays_means (cells_of C));
      drops = subst (Many DroppedAt (cells_of C)) (sym dropped_same) many_drop;
      marks =
          let all : length staying + lost ≡ cells + dropped = omega (arith, cells_is, dropped_same) in
          subst (Many MarkedAt (cells_of C)) all many_marked;
    }
