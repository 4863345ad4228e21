-- What a tape says of a section, and the head of a call of its tables.
use Rattle.std.specs.Prelude.{◌≡◌, List, ℕ, ◌+◌, ◌/◌, min, length, get_or}
use Rattle.tape.specs.declared.Lengths.{Lengths}
use Rattle.tape.specs.declared.Part.{Part}
use Rattle.tape.specs.declared.Section.{Section}
use Rattle.tape.specs.declared.Inputs.{Inputs}

-- a length on the tape, cut to the room of a table
abbrev pub length_at : List ℕ → ℕ → ℕ
length_at t at = min 16384 (get_or t at 0)

pub record LengthsAt (t : List ℕ) (at : ℕ) (r : Lengths) : Type 0 where
  pub first : r.first ≡ length_at t (at + 10)
  pub second : r.second ≡ length_at t (at + 11)
  pub third : r.third ≡ length_at t (at + 12)
  pub bytes : r.bytes ≡ length_at t (at + 13)
  pub longs : r.longs ≡ length_at t (at + 14)

-- the place n words on, at most the end
abbrev pub onward_from : List ℕ → ℕ → ℕ → ℕ
onward_from t at n = min (length t) (at + n)

-- a table that starts at a word, and whose length the tape says
pub record PartAt (t : List ℕ) (start at : ℕ) (r : Part) : Type 0 where
  pub from : r.from ≡ start
  pub count : r.count ≡ get_or t at 0

-- the place after so many bytes
abbrev pub after_bytes : List ℕ → Part → ℕ
after_bytes t p = onward_from t p.from (p.count / 4 + 1)

pub record SectionAt (t : List ℕ) (at : ℕ) (r : Section) : Type 0 where
  pub name : PartAt t (onward_from t at 2) (at + 1) r.name
  pub calls : r.calls ≡ get_or t (at + 0) 0
  pub start : r.start ≡ after_bytes t r.name

pub record InputsAt (t : List ℕ) (at : ℕ) (r : Inputs) : Type 0 where
  pub points : PartAt t (onward_from t at 19) (at + 15) r.points
  pub cells : PartAt t (onward_from t r.points.from r.points.count) (at + 16) r.cells
  pub crossing : PartAt t (onward_from t r.cells.from r.cells.count) (at + 17) r.crossing
  pub probe : PartAt t (after_bytes t r.crossing) (at + 18) r.probe
  pub after : r.after ≡ after_bytes t r.probe
