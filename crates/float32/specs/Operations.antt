-- The operations on floats of 32 bits under short names; each rounds once, to the nearest, ties to even.
use Rattle.std.specs.Prelude.{ℕ, pos, from_bits, Float}
use Rattle.std.specs.Float.{binary32}
use Rattle.std.specs.Float.Ieee.{add, sub, mul, div, of_int}

abbrev pub ◌+f◌ : Float → Float → Float
a +f b = add binary32 a b

abbrev pub ◌-f◌ : Float → Float → Float
a -f b = sub binary32 a b

abbrev pub ◌*f◌ : Float → Float → Float
a *f b = mul binary32 a b

abbrev pub ◌/f◌ : Float → Float → Float
a /f b = div binary32 a b

infixl 65 ◌+f◌
infixl 65 ◌-f◌
infixl 70 ◌*f◌
infixl 70 ◌/f◌
-- the float of a bit pattern
abbrev pub f32 : ℕ → Float
f32 bits = from_bits binary32 bits

-- the whole number n as a float
abbrev pub whole32 : ℕ → Float
whole32 n = of_int binary32 (pos n)

abbrev pub zero32 : Float
zero32 = f32 0

abbrev pub half32 : Float
half32 = f32 0x3f00_0000

abbrev pub two32 : Float
two32 = f32 0x4000_0000
