-- The marks of a row's shell tell what touches the row's octants. Assumes nothing.
use mathlib.Core.Path.{◌≡◌, ap, sym, ◌∙◌}
use mathlib.Core.Bool.{Bool, true, ◌||◌}
use mathlib.Core.List.{List}
use Prim.Native.Nat.{ℕ, zero, suc, ◌+◌, ◌*◌, ◌-◌, ◌≤◌, ◌<◌}
use native.Mathlib.Omega.{arith}
use native.Mathlib.Decide.{dec_le}
use borrow.Author.Tests.{le-leb, leb-true}
use lib.Dec.{eqb, leb}
use lib.ListN.{get_or}
use Rattle.lists.proofs.Bools.{and_both, both_and, bool_ext, clash}
use Rattle.lists.proofs.Any.{any_some, some_any}
use Rattle.space.specs.Space.{ax, ay, az, Pos, pos}
use Rattle.space.proofs.Space.{on_all, inside_three}
use Rattle.octants.specs.Oct.{near}
use Rattle.octants.proofs.Axis1.{Close}
use Rattle.octants.proofs.Near.{near_some, some_near}
use Rattle.octants.proofs.Levels.{layer_few}
use Rattle.octree.specs.Parts.{counts_of, below_of, in_level, Stacked}
use Rattle.octree.specs.Sweep.{one}
use Rattle.octree.specs.declared.Level.{Level}
use Rattle.balance.specs.Parts.{from, some, in_row, in_rows, in_layers, LayersAsked, Merged, Ends, Blank, Seen, touched_of}

-- some number of a range passes
some_in : (lo hi : ℕ) (f : ℕ → Bool) → some lo hi f ≡ true → (k : ℕ) × (lo ≤ k) × (k < hi) × (f k ≡ true)
some_in lo hi f h =
    let k = any_some hi (from lo f) h in
    let b = and_both (leb lo k.0) (f k.0) k.2 in
    (k.0, leb-true lo k.0 b.0, k.1, b.1)

in_some : (lo hi k : ℕ) (f : ℕ → Bool) → lo ≤ k → k < hi → f k ≡ true → some lo hi f ≡ true
in_some lo hi k f p q h = some_any hi (from lo f) k q (both_and (leb lo k) (f k) (le-leb lo k p) h)

-- row (y, z) of the level v, and the rows y0 up to y1 of the layers z0 up to z1 of the level below
module _ (s : List ℕ) (v : Level) (y z : ℕ) {y0 y1 z0 z1 : ℕ} (ey : y0 ≡ 2 * y - 1) (hy : Ends y v.ny y1) (ez : z0 ≡ 2 * z - 1) (hz : Ends z v.nz z1) where
  -- they are there
  pub shell_asked : {seen : List ℕ} → Blank seen (2 * v.nx) → Stacked s v → y < v.ny → z < v.nz → LayersAsked seen s (below_of v) y0 y1 z0 z1
  shell_asked b k fy fz =
      record {
        room = b.room;
        rows = omega (arith, hy.all (2 * y) (omega arith) (omega arith));
        rows_in = hy.inside;
        layers = omega (arith, hz.all (2 * z) (omega arith) (omega arith));
        layers_in = hz.inside;
        small = omega (arith, layer_few k.counts);
        held = k.room;
      }

  abbrev m : Pos
  m = counts_of (below_of v)

  -- a split octant in these rows and layers, at i along the row
  abbrev hit : ℕ → Bool
  hit = in_layers s (below_of v) y0 y1 z0 z1

  abbrev layer : ℕ → ℕ
  layer k = (below_of v).start + k * (2 * v.nx * (2 * v.ny))

  hit_near : (x i : ℕ) → i < 2 * v.nx → Close x i → hit i ≡ true → near m (in_level s (below_of v)) (pos x y z) ≡ true
  hit_near x i f c h =
      let k = some_in z0 z1 (λ z. in_rows s (layer z) (2 * v.nx) y0 y1 i) h in
      let j = some_in y0 y1 (λ y. in_row s (layer k.0) (2 * v.nx) y i) k.3 in
      let e : layer k.0 + j.0 * (2 * v.nx) + i ≡ (below_of v).start + (i + j.0 * (2 * v.nx) + k.0 * (2 * v.nx * (2 * v.ny))) = omega arith in
      some_near m (in_level s (below_of v)) (pos x y z) (pos i j.0 k.0)
      (inside_three f (omega (arith, j.2, hy.inside)) (omega (arith, k.2, hz.inside)))
      (ap (λ (v : ℕ). eqb (get_or s v 0) 1) (sym e) ∙ j.3)
      (on_all (λ a. Close (pos x y z a) (pos i j.0 k.0 a)) c
      (omega (arith, j.1, j.2, hy.near), omega (arith, j.1, j.2, hy.near)) (omega (arith, k.1, k.2, hz.near), omega (arith, k.1, k.2, hz.near)))

  near_hit : (x : ℕ) → near m (in_level s (below_of v)) (pos x y z) ≡ true → (i : ℕ) × (i < 2 * v.nx) × (Close x i) × (hit i ≡ true)
  near_hit x h =
      let n = near_some m (in_level s (below_of v)) (pos x y z) h in
      let i : ℕ = n.0 ax in
      let j : ℕ = n.0 ay in
      let k : ℕ = n.0 az in
      let cy : Close y j = n.3 ay in
      let cz : Close z k = n.3 az in
      let e : (below_of v).start + (i + j * (2 * v.nx) + k * (2 * v.nx * (2 * v.ny))) ≡ layer k + j * (2 * v.nx) + i = omega arith in (
        i,
        n.1 ax,
        n.3 ax,
        in_some z0 z1 k (λ z. in_rows s (layer z) (2 * v.nx) y0 y1 i) (omega arith) (hz.all k cz.1 (n.1 az))
            (in_some y0 y1 j (λ y. in_row s (layer k) (2 * v.nx) y i) (omega arith) (hy.all j cy.1 (n.1 ay))
            (ap (λ (u : ℕ). eqb (get_or s u 0) 1) (sym e) ∙ n.2)),
      )

  module _ {a seen : List ℕ} (b : Blank a (2 * v.nx)) (w : Merged a seen (2 * v.nx) hit) where
    -- an entry that is marked is a hit
    mark_hit : (j : ℕ) → one seen j ≡ true → (i : ℕ) × (j ≡ i + 1) × (i < 2 * v.nx) × (hit i ≡ true)
    mark_hit zero h = clash h (w.before ∙ b.none 0)
    mark_hit (suc i) h = go (dec_le (2 * v.nx) i)
      where
        e : i + 1 ≡ suc i
        e = omega arith

        go : Dec (2 * v.nx ≤ i) → (k : ℕ) × (suc i ≡ k + 1) × (k < 2 * v.nx) × (hit k ≡ true)
        go (yes g) = clash h (w.past (suc i) (omega arith) ∙ b.none (suc i))
        go (no g) = (
          i,
          omega arith,
          omega arith,
          sym (w.marks i (omega arith) ∙ ap (λ (t : Bool). t || hit i) (b.none (i + 1))) ∙ ap (one seen) e ∙ h,
        )

    hit_mark : (i : ℕ) → i < 2 * v.nx → hit i ≡ true → one seen (i + 1) ≡ true
    hit_mark i f h = w.marks i f ∙ ap (λ (t : Bool). t || hit i) (b.none (i + 1)) ∙ h

    pub shell_tells : Seen seen s (below_of v) v.nx y z
    shell_tells = record { tells = λ x f. bool_ext (touched_of seen x) (near m (in_level s (below_of v)) (pos x y z)) (there x) (back x) }
      where
        there : (x : ℕ) → touched_of seen x ≡ true → near m (in_level s (below_of v)) (pos x y z) ≡ true
        there x h =
            let e = any_some 4 (λ e. one seen (2 * x + e)) h in
            let i = mark_hit (2 * x + e.0) e.2 in
            hit_near x i.0 i.2 (omega (arith, i.1, e.1), omega (arith, i.1, e.1)) i.3

        back : (x : ℕ) → near m (in_level s (below_of v)) (pos x y z) ≡ true → touched_of seen x ≡ true
        back x h =
            let i = near_hit x h in
            let e : 2 * x + (i.0 + 1 - 2 * x) ≡ i.0 + 1 = omega (arith, i.2.0) in
            some_any 4 (λ e. one seen (2 * x + e)) (i.0 + 1 - 2 * x) (omega (arith, i.2.1)) (ap (one seen) e ∙ hit_mark i.0 i.1 i.3)
