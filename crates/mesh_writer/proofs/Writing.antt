-- The sections that `write_mesh` stores one behind the other. Assumes nothing.
use mathlib.Core.Path.{◌≡◌, refl, sym, ap, ◌∙◌}
use mathlib.Core.Bool.{false}
use mathlib.Core.List.{List, append_assoc}
use Prim.Native.Nat.{ℕ, ◌+◌, ◌*◌, ◌/◌}
use native.Mathlib.Omega.{arith}
use lib.ListN.{length, replicate}
use lib.Seq.{sets}
use Rattle.lists.specs.Runs.{Stored}
use Rattle.lists.proofs.Parts.{sets_whole}
use Rattle.lists.proofs.Running.{stored_both}
use Rattle.mesh.specs.Mesh.{points_of, cells_of}
use Rattle.words.specs.Words.{bytes4, bytes_of}
use Rattle.components.specs.Numbers.{component_numbers}
use Rattle.components.proofs.Patterns.{length_components}
use Rattle.file_steps.specs.Parts.{Storable, Placed}
use Rattle.mesh_layout.specs.Layout.{section, encode, mesh_file}
use Rattle.mesh_layout.proofs.Sections.{length_section, section_stored}
use Rattle.mesh_layout.proofs.There.{length_encode}
use Rattle.mesh_writer.specs.Step.{bytes_for}

pub length_file : (P C : List ℕ) → length P ≡ 3 * points_of P → length C ≡ 4 * cells_of C → length (mesh_file P C) ≡ bytes_for P C
length_file P C p c = length_encode P C (component_numbers C (cells_of C)) ∙ omega (arith, length_components C (cells_of C))

-- a section that was stored, and where it ends
stored : (w : ℕ) (words : List ℕ) {o o1 : List ℕ} {at r : ℕ} → o1 ≡ sets o at (section w words) → r ≡ at + 4 + 4 * length words → Stored o at (section w words) r o1
stored w words e f = record { count = omega (arith, length_section w words); kept = e }

-- the four runs of stores of `put_mesh`
pub mesh_placed : (P C o w : List ℕ) {o1 o2 o3 o4 w' : List ℕ} (s t : ℕ) → Storable (bytes_for P C) P C o w → s ≡ 4 + 4 * length P → t ≡ s + 4 + 4 * length C
    → o1 ≡ sets o 0 (section 3 P) → o2 ≡ sets o1 s (section 4 C) → o3 ≡ sets o2 t (bytes4 false (cells_of C))
    → o4 ≡ sets o3 (t + 4) (bytes_of false (component_numbers C (cells_of C))) → w' ≡ replicate (length w) 0 → Placed (mesh_file P C) o4 w w'
unfolding encode
mesh_placed P C o w {o1} {o2} {o3} {o4} s t h es et e1 e2 e3 e4 ew =
    let N : List ℕ = component_numbers C (cells_of C) in
    let n : cells_of C ≡ length N / 1 = omega (arith, length_components C (cells_of C)) in
    let k3 : o4 ≡ sets o2 t (section 1 N) = section_stored 1 t N o2 (e3 ∙ ap (λ (j : ℕ). sets o2 t (bytes4 false j)) n) e4 in
    let k = stored_both refl (stored_both refl (stored 3 P e1 (omega arith)) (stored 4 C e2 et)) (stored 1 N k3 refl) in
    record {
      file =
          k.kept ∙ ap (sets o 0) (append_assoc (section 3 P) (section 4 C) (section 1 N))
          ∙ sets_whole (mesh_file P C) o (length_file P C h.whole h.fits.cells.whole ∙ sym h.long);
      zero = ew;
    }
