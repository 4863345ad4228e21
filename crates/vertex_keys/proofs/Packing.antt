-- The order of keys is that of triples, and a key gives its triple back. Assumes nothing.
use mathlib.Core.Path.{◌≡◌, sym, ap, ◌∙◌, fun_ext}
use mathlib.Core.Logic.{◌⊎◌, inl, inr, ◌↔◌, ◌≢◌}
use Prim.Native.Nat.{ℕ, ◌≤◌, ◌<◌}
use native.Mathlib.Omega.{arith}
use Rattle.space.specs.Space.{Axis, ax, ay, az, Pos}
use Rattle.lists.proofs.Cases.{lt_or, eq_or}
use Rattle.vertex_keys.specs.Keys.{most_keys, key_of, triple_of, Packs, Before}

-- the key of a key's triple is the key
pub key_triple : (k : ℕ) → key_of (triple_of k) ≡ k
unfolding key_of
key_triple k = omega arith

module _ (p : Pos) (h : Packs p) where
  -- the triple of a key is the triple that was packed
  pub triple_key : triple_of (key_of p) ≡ p
  unfolding key_of
  triple_key = fun_ext at
    where
      at : (a : Axis) → triple_of (key_of p) a ≡ p a
      at ax = omega (arith, h ax, h ay, h az)
      at ay = omega (arith, h ax, h ay, h az)
      at az = omega (arith, h ax, h ay, h az)

  pub key_small : key_of p < most_keys
  unfolding key_of
  key_small = omega (arith, h ax, h ay, h az)

  module _ (q : Pos) (g : Packs q) where
    key_before : Before p q → key_of p < key_of q
    unfolding key_of
    key_before (inl x) = omega (arith, h ax, h ay, h az)
    key_before (inr (x, inl y)) = omega (arith, h ay, h az)
    key_before (inr (x, inr (y, z))) = omega arith

    before_key : key_of p < key_of q → Before p q
    unfolding key_of
    before_key l = go (lt_or (p ax) (q ax)) (eq_or (p ax) (q ax)) (lt_or (p ay) (q ay)) (eq_or (p ay) (q ay))
      where
        go : (p ax < q ax) ⊎ (q ax ≤ p ax) → (p ax ≡ q ax) ⊎ (p ax ≢ q ax) → (p ay < q ay) ⊎ (q ay ≤ p ay) → (p ay ≡ q ay) ⊎ (p ay ≢ q ay) → Before p q
        go (inl x) a b d = inl x
        go (inr x) (inr a) b d = absurd (omega (arith, l, g ay, g az))
        go (inr x) (inl a) (inl b) d = inr (a, inl b)
        go (inr x) (inl a) (inr b) (inr d) = absurd (omega (arith, l, g az))
        go (inr x) (inl a) (inr b) (inl d) = inr (a, inr (d, omega (arith, l)))

    -- the order of keys is that of triples
    pub key_order : (key_of p < key_of q) ↔ Before p q
    key_order = (before_key, key_before)

    -- one key, one triple
    pub key_one : key_of p ≡ key_of q → p ≡ q
    key_one e = sym triple_key ∙ ap triple_of e ∙ Rattle.vertex_keys.proofs.Packing.triple_key q g
