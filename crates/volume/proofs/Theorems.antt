-- What the verdict means: it carries the volume, whichever it is; a NaN volume and one of exactly the least size stay, whatever the least
-- volume is. Assumes nothing.
use mathlib.Core.Path.{◌≡◌, refl}
use mathlib.Core.Bool.{Bool, true, false, cond}
use native.Mathlib.Omega.{arith}
use Prim.Native.Nat.{◌*◌}
use borrow.Author.Tests.{le-ltb}
use lib.Ieee.{Float, nan, inf, fin, up, down, lt}
use Rattle.float32.specs.Operations.{zero32}
use Rattle.volume.specs.Volume.{size_of, verdict_of, volume_in}
use Rattle.volume.specs.declared.Verdict.TheVariants.{Kept, Exchanged, Dropped}

pub carries_volume : (v least : Float) → volume_in (verdict_of v least) ≡ v
unfolding verdict_of
carries_volume v least = go (lt (size_of v) least) (lt v zero32)
  where
    go : (s t : Bool) → volume_in (cond s (Dropped v) (cond t (Exchanged v) (Kept v))) ≡ v
    go true t = refl
    go false true = refl
    go false false = refl

pub nan_stays : (least : Float) → verdict_of nan least ≡ Kept nan
unfolding verdict_of size_of lt
nan_stays least = refl

-- nothing is less than itself
pub not_below_itself : (x : Float) → lt x x ≡ false
unfolding lt
not_below_itself nan = refl
not_below_itself (inf true) = refl
not_below_itself (inf false) = refl
not_below_itself (fin true m e) = le-ltb (m * up e * down e) (m * up e * down e) (omega arith)
not_below_itself (fin false m e) = le-ltb (m * up e * down e) (m * up e * down e) (omega arith)

pub equal_stays : (v : Float) → verdict_of v (size_of v) ≡ cond (lt v zero32) (Exchanged v) (Kept v)
unfolding verdict_of
equal_stays v = rw (not_below_itself (size_of v)) refl
