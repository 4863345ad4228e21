-- What `write_mesh` leaves, `read_mesh` reads as the same mesh; what `read_mesh` reads is a mesh, and the bytes are its file. From the contracts.
-- Assumes nothing.
use mathlib.Core.Path.{◌≡◌, refl, sym, ap, ap₂, subst, subst₂, ◌∙◌}
use mathlib.Core.Bool.{true}
use mathlib.Core.List.{List}
use Prim.Native.Nat.{ℕ, ◌*◌}
use native.Mathlib.Omega.{arith}
use lib.ListN.{length, take}
use Rattle.lists.specs.Tables.{all_below, same}
use Rattle.lists.proofs.Lent.{all_below_lem}
use Rattle.lists.proofs.Listing.{same_eq, same_refl}
use Rattle.refusals.specs.Rows.{first}
use Rattle.std.specs.Prelude.{Result, Ok}
use Rattle.refusals.proofs.Rows.{goes_on}
use Rattle.mesh.specs.Mesh.{points_of, cells_of, Cells}
use Rattle.words.proofs.Words.{length_words}
use Rattle.components.specs.Numbers.{component_numbers}
use Rattle.components.proofs.Patterns.{length_components}
use Rattle.file_components.specs.Blocks.{points_in, cells_in, numbers_in}
use Rattle.file_components.proofs.Comparing.{cells_in_lem}
use Rattle.file_components.proofs.Small.{numbers_small}
use Rattle.file_steps.specs.Meshes.{Mesh, Room, Back}
use Rattle.file_steps.specs.declared.Loaded.{Loaded}
use Rattle.file_steps.specs.declared.LoadError.{LoadError}
use Rattle.file_steps.specs.Loaded.{done}
use Rattle.file_steps.proofs.Theorems.{Says, contents_clear, Answered, reads_mesh, read_answered, taken, file_left, mesh_in}
use Rattle.mesh_layout.specs.Layout.{encode, mesh_file, blocks_of}
use Rattle.mesh_layout.proofs.There.{Found, encode_found}
use Rattle.mesh_layout.proofs.Sound.{laid_encodes}
use Rattle.mesh_writer.specs.Step.{bytes_for, WriteDone}
use Rattle.mesh_writer.proofs.Writing.{length_file}
use Rattle.mesh_reader.specs.Step.{section_rows, file_rows, ReadDone}
use Rattle.mesh_reader.proofs.Sections.{sections_proper, laid_clear, file_proper, laid_file, named_file, loadable}

-- ---- the file of a mesh

-- the vertices of cells that name points fit a word
vertices_small : (C : List ℕ) (n : ℕ) → Cells C n → all_below 4294967296 C ≡ true
vertices_small C n c = all_below_lem 4294967296 C (λ i h. omega (arith, c.names i h, c.small))

module _ (P C : List ℕ) (m : Mesh P C) where
  found : Found (mesh_file P C) P C (component_numbers C (cells_of C))
  found =
      let l = length_components C (cells_of C) in
      encode_found P C (component_numbers C (cells_of C))
      (record { entries = m.points; count = omega (arith, m.cells.small); small = m.bits })
      (record { entries = m.cells.whole; count = omega (arith, m.cells.few); small = vertices_small C (points_of P) m.cells })
      (record { entries = omega arith; count = omega (arith, m.cells.few); small = numbers_small C (cells_of C) m.cells.few })

  says : Says (mesh_file P C) (blocks_of (mesh_file P C)) P C
  says = record {
    points = found.points;
    cells = found.cells;
    count_points = found.count_points;
    count_cells = found.count_cells;
    right = ap₂ same found.numbers (ap₂ component_numbers found.cells found.count_cells) ∙ same_refl (component_numbers C (cells_of C));
  }

  unrefused : first (file_rows (mesh_file P C)) ≡ 0
  unfolding file_rows
  unrefused =
      goes_on (section_rows (mesh_file P C)) _ (sections_proper (mesh_file P C)) refl (laid_clear (mesh_file P C) found.laid)
      ∙ contents_clear (mesh_file P C) (blocks_of (mesh_file P C)) P C m says

-- two different meshes have different files
pub files_differ : (P C P' C' : List ℕ) → Mesh P C → Mesh P' C' → mesh_file P C ≡ mesh_file P' C' → (P ≡ P') × (C ≡ C')
files_differ P C P' C' m m' e = (
  sym (found P C m).points ∙ ap (λ (b : List ℕ). points_in b (blocks_of b)) e ∙ (found P' C' m').points,
  sym (found P C m).cells ∙ ap (λ (b : List ℕ). cells_in b (blocks_of b)) e ∙ (found P' C' m').cells,
)

-- ---- what is written reads back

-- an answer of `write_mesh`
module _ (P C o w : List ℕ) {bytes : ℕ} {o' w' : List ℕ} (bits : all_below 4294967296 P ≡ true) (d : WriteDone P C o w (Ok bytes) o' w') where
  pub written_mesh : Mesh P C
  written_mesh = taken 2 (bytes_for P C) (mesh_file P C) P C o w d bits

  -- the bytes that it leaves in the file's table are the file
  pub written_file : take bytes o' ≡ mesh_file P C
  written_file = file_left 2 (bytes_for P C) (mesh_file P C) P C o w d (length_file P C written_mesh.points written_mesh.cells.whole)

  -- and read with room, they are the mesh that was written
  pub reads_back : (x y v : List ℕ) {a : Result Loaded LoadError} {x' y' v' : List ℕ} → Room (length x) (length y) (length v) (points_of P) (cells_of C)
      → ReadDone (take bytes o') x y v a x' y' v' → Back P C x y v a x' y' v'
  reads_back x y v {a} {x'} {y'} {v'} r l =
      reads_mesh (file_rows (mesh_file P C)) (mesh_file P C) (blocks_of (mesh_file P C)) x y v (subst (λ (b : List ℕ). ReadDone b x y v a x' y' v') written_file l) P C
      (file_proper (mesh_file P C)) (unrefused P C written_mesh) written_mesh (says P C written_mesh) r

-- ---- what is read is a mesh, and the bytes are its file

-- an answer of `read_mesh`: points and cells in front of the tables
pub record Given (b x' y' : List ℕ) (p n : ℕ) : Type 0 where
  pub mesh : Mesh (take (3 * p) x') (take (4 * n) y')
  pub points : points_of (take (3 * p) x') ≡ p
  pub cells : cells_of (take (4 * n) y') ≡ n
  pub bytes : b ≡ mesh_file (take (3 * p) x') (take (4 * n) y')

pub read_given : (b x y w : List ℕ) {p n : ℕ} {x' y' w' : List ℕ} → all_below 256 b ≡ true → ReadDone b x y w (done p n) x' y' w' → Given b x' y' p n
read_given b x y w {p} {n} {x'} {y'} s d = by_answer (read_answered (file_rows b) b (blocks_of b) x y w (file_proper b) d)
  where
    by_answer : Answered (file_rows b) b (blocks_of b) p n x' y' → Given b x' y' p n
    by_answer a =
        let k = blocks_of b in
        let m : Mesh (points_in b k) (cells_in b k) = mesh_in b k s (loadable b a.clear_rows).stands (named_file b a.clear_rows) in
        let np : points_of (points_in b k) ≡ k.p = omega (arith, length_words k.big b k.points (3 * k.p)) in
        let numbers : numbers_in b k ≡ component_numbers (cells_in b k) (cells_of (cells_in b k)) =
        same_eq (numbers_in b k) (component_numbers (cells_in b k) k.n) a.right ∙ ap (component_numbers (cells_in b k)) (sym (cells_in_lem b k)) in
        record {
          mesh = subst₂ Mesh (sym a.points) (sym a.cells) m;
          points = ap points_of a.points ∙ np ∙ a.count_points;
          cells = ap cells_of a.cells ∙ cells_in_lem b k ∙ a.count_cells;
          bytes =
              laid_encodes b s (laid_file b a.clear_rows) ∙ ap (encode (points_in b k) (cells_in b k)) numbers
              ∙ ap₂ mesh_file (sym a.points) (sym a.cells);
        }

-- so no other bytes read as that mesh
pub one_file : (b x y b' x' y' : List ℕ) {p n p' n' : ℕ} → Given b x y p n → Given b' x' y' p' n'
    → take (3 * p) x ≡ take (3 * p') x' → take (4 * n) y ≡ take (4 * n') y' → b ≡ b'
one_file b x y b' x' y' g g' ep ec = g.bytes ∙ ap₂ mesh_file ep ec ∙ sym g'.bytes
