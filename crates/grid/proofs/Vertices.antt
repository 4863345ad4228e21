-- The vertices of an octree as tables, key by key. Assumes nothing.
use mathlib.Core.Path.{◌≡◌, refl, sym, ap, ◌∙◌}
use mathlib.Core.List.{List, [], ◌∷◌, ◌++◌, map}
use Prim.Native.Nat.{ℕ, zero, suc, ◌*◌, ◌≤◌, ◌<◌}
use native.Mathlib.Omega.{arith}
use lib.ListN.{length, get_or, take}
use lib.Seq.{get_or-take, length-take-le}
use Rattle.lists.specs.Runs.{run, Room}
use Rattle.lists.proofs.Running.{run_same, length_run, sum_flat}
use Rattle.space.specs.Space.{Axis, ax, ay, az}
use Rattle.vertex_keys.specs.Keys.{triple_of}
use Rattle.plan.specs.Vertices.{spread}
use Rattle.grid.specs.Parts.{three_of, key_table}

run_shift : {A : Type 0} (n : ℕ) (f : ℕ → List A) (i : ℕ) → run n f (suc i) ≡ run n (λ j. f (suc j)) i
unfolding run
run_shift zero f i = refl
run_shift (suc n) f i = ap (λ l. f (suc i) ++ l) (run_shift n f (suc i))

spread_run : (g : Axis → ℕ → ℕ) (l : List ℕ) → spread g (map triple_of l) ≡ run (length l) (λ i. three_of g (get_or l i 0)) 0
unfolding spread run three_of
spread_run g [] = refl
spread_run g (x ∷ l) =
    ap (λ (t : List ℕ). g ax (triple_of x ax) ∷ g ay (triple_of x ay) ∷ g az (triple_of x az) ∷ t)
    (spread_run g l ∙ sym (run_shift (length l) (λ i. three_of g (get_or (x ∷ l) i 0)) 0))

pub spread_keys : (g : Axis → ℕ → ℕ) (v : ℕ) (w : List ℕ) → v ≤ length w → spread g (map triple_of (take v w)) ≡ key_table g v w
spread_keys g v w h =
    spread_run g (take v w)
    ∙ ap (λ (n : ℕ). run n (λ i. three_of g (get_or (take v w) i 0)) 0) (length-take-le v w h)
    ∙ run_same v _ _ 0 (λ i a b. ap (three_of g) (get_or-take v w i 0 (omega arith)))

-- a key among the first v, which are lent as a part of the table
pub key_at : (w : List ℕ) (v i : ℕ) → v ≤ length w → i < length (take v w) → (i < v) × (get_or (take v w) i 0 ≡ get_or w i 0)
key_at w v i h b = let q : i < v = omega (arith, length-take-le v w h) in (q, get_or-take v w i 0 q)

pub key_room : (g : Axis → ℕ → ℕ) (v : ℕ) (w o : List ℕ) → 3 * v ≤ length o → Room o 0 (key_table g v w)
unfolding three_of
key_room g v w o h =
    let e : length (key_table g v w) ≡ v * 3 = length_run v (λ i. three_of g (get_or w i 0)) 0 ∙ sum_flat v 3 0 in
    record { fits = omega arith }

pub three_same : {a b c a' b' c' : ℕ} → a ≡ a' → b ≡ b' → c ≡ c' → ◌≡◌ {A = List ℕ} (a ∷ b ∷ c ∷ []) (a' ∷ b' ∷ c' ∷ [])
three_same e f g = rw (e, f, g) refl
