-- What `write_vtk` leaves, `read_vtk` reads as the same mesh; what `read_vtk` reads is a mesh, and the bytes are its file, but for the title. From the
-- contracts. Assumes nothing.
use mathlib.Core.Path.{◌≡◌, refl, sym, ap, ap₂, subst, subst₂, ◌∙◌}
use mathlib.Core.Bool.{Bool, true, false, not, ◌&&◌}
use mathlib.Core.List.{List, [], ◌∷◌, ◌++◌}
use Prim.Native.Nat.{ℕ, ◌+◌, ◌*◌, ◌≤◌, ◌<◌}
use native.Mathlib.Omega.{arith}
use borrow.Author.Tests.{eqb-false, not-true}
use lib.Dec.{eqb, leb}
use lib.ListN.{length, take, drop, replicate, length-replicate, get_or-replicate}
use lib.Seq.{drop-append_seam}
use Rattle.lists.specs.Tables.{all_below, same, among}
use Rattle.lists.proofs.Bools.{and_left, and_right}
use Rattle.lists.proofs.Lent.{all_below_lem}
use Rattle.lists.proofs.Listing.{same_eq, same_refl}
use Rattle.refusals.specs.Rows.{Row, ◌when◌, first}
use Rattle.refusals.specs.Causes.{room_rows}
use Rattle.refusals.proofs.Rows.{goes_on}
use Rattle.mesh.specs.Mesh.{points_of, cells_of}
use Rattle.mesh.specs.Judged.{count_rows, name_rows}
use Rattle.words.specs.Words.{bytes_of, words_at, cells_at}
use Rattle.words.proofs.Words.{length_bytes, length_words, words_bytes}
use Rattle.components.specs.Numbers.{component_numbers}
use Rattle.components.proofs.Patterns.{length_components}
use Rattle.file_components.specs.Blocks.{points_in, cells_in, numbers_in}
use Rattle.file_components.proofs.Comparing.{cells_in_lem}
use Rattle.file_components.proofs.Small.{numbers_small}
use Rattle.file_steps.specs.Loaded.{number_of}
use Rattle.file_steps.specs.Reader.{content_rows, table_rows, number_rows, Reads}
use Rattle.file_steps.specs.Meshes.{Mesh, Room, Back}
use Rattle.file_steps.specs.declared.Loaded.{Loaded}
use Rattle.file_steps.specs.declared.LoadError.{LoadError}
use Rattle.file_steps.specs.Loaded.{done}
use Rattle.file_steps.proofs.Theorems.{Says, contents_clear, Answered, reads_mesh, read_answered, read_number_lem, taken, file_left, mesh_in}
use Rattle.decimal.specs.Text.{text_of}
use Rattle.std.specs.Prelude.{Result, Ok, Err}
use Rattle.refusals.specs.declared.Refusal.{Refusal}
use Rattle.vtk_layout.specs.Texts.{version_line, our_title, feed}
use Rattle.vtk_layout.specs.Layout.{no_feed, is_title, written, located_of}
use Rattle.vtk_layout.specs.File.{led, types_of, vtk_file}
use Rattle.vtk_layout.specs.Parts.{Laid}
use Rattle.vtk_layout.specs.declared.Layout.{Layout}
use Rattle.vtk_layout.proofs.Sound.{located_laid}
use Rattle.vtk_layout.proofs.There.{Standing, stands}
use Rattle.vtk_writer.specs.Step.{vtk_bytes, WriteDone}
use Rattle.vtk_writer.proofs.Writing.{length_led, length_file}
use Rattle.vtk_reader.specs.Step.{blocks_of, leads_in, types_in, layout_of, stopped, layout_rows, shape_rows, body_rows, file_rows, ReadDone}
use Rattle.vtk_reader.proofs.Files.{shape_proper, file_proper, laid_stands, led as led_all, typed, named, stopped_refuses}
use Rattle.vtk_reader.proofs.Cells.{led_is, block_words, cells_read, leads_right}

-- ---- the file of a mesh, with any title

-- a layout at whose places the blocks of a mesh stand
record Stand (P C b : List ℕ) (l : Layout) : Type 0 where
  laid : Laid b l
  count_p : l.p ≡ points_of P
  count_n : l.n ≡ cells_of C
  points : take (12 * points_of P) (drop l.points b) ≡ bytes_of true P
  cells : take (20 * cells_of C) (drop l.cells b) ≡ bytes_of true (led C)
  types : take (4 * cells_of C) (drop l.types b) ≡ bytes_of true (types_of (cells_of C))
  numbers : take (4 * cells_of C) (drop l.numbers b) ≡ bytes_of true (component_numbers C (cells_of C))

types_small : (n : ℕ) → all_below 4294967296 (types_of n) ≡ true
types_small n = all_below_lem 4294967296 (types_of n) (λ i h. let k : i < n = omega (arith, length-replicate {A = ℕ} n 10) in omega (arith, get_or-replicate {A = ℕ} n i 10 0 k))

module _ (P C : List ℕ) (m : Mesh P C) (b : List ℕ) (l : Layout) (s : Stand P C b l) where
  points_are : points_in b (blocks_of l) ≡ P
  unfolding blocks_of
  points_are =
      let k : 4 * (3 * points_of P) ≡ 12 * points_of P = omega arith in
      ap (λ (j : ℕ). words_at true b l.points (3 * j)) s.count_p
      ∙ block_words b P l.points (3 * points_of P) m.bits m.points (omega (arith, s.laid.points_in_lem, s.count_p)) (ap (λ (j : ℕ). take j (drop l.points b)) k ∙ s.points)

  cells_fit : l.cells + 20 * cells_of C ≤ length b
  cells_fit = omega (arith, s.laid.cells_in_lem, s.count_n)

  cells_are : cells_in b (blocks_of l) ≡ C
  unfolding blocks_of
  cells_are = ap (cells_at true 5 b (l.cells + 4)) s.count_n ∙ cells_read C (points_of P) m.cells b l.cells cells_fit s.cells

  numbers_are : numbers_in b (blocks_of l) ≡ component_numbers C (cells_of C)
  unfolding blocks_of
  numbers_are =
      ap (words_at true b l.numbers) s.count_n
      ∙ block_words b (component_numbers C (cells_of C)) l.numbers (cells_of C) (numbers_small C (cells_of C) m.cells.few) (length_components C (cells_of C))
      (omega (arith, s.laid.numbers_in_lem, s.count_n)) s.numbers

  says : Says b (blocks_of l) P C
  unfolding blocks_of
  says = record {
    points = points_are;
    cells = cells_are;
    count_points = s.count_p;
    count_cells = s.count_n;
    right = ap₂ same numbers_are (ap₂ component_numbers cells_are s.count_n) ∙ same_refl (component_numbers C (cells_of C));
  }

  types_right : same (types_in b l.n l.types) (replicate l.n 10) ≡ true
  types_right =
      ap₂ (λ (i j : ℕ). same (types_in b i l.types) (replicate j 10)) s.count_n s.count_n
      ∙ ap (λ (k : List ℕ). same k (replicate (cells_of C) 10))
      (block_words b (types_of (cells_of C)) l.types (cells_of C) (types_small (cells_of C)) (length-replicate (cells_of C) 10) (omega (arith, s.laid.types_in_lem, s.count_n)) s.types)
      ∙ same_refl (replicate (cells_of C) 10)

  leads_are : same (leads_in b l.n l.cells) (replicate l.n 4) ≡ true
  leads_are =
      ap₂ (λ (i j : ℕ). same (leads_in b i l.cells) (replicate j 4)) s.count_n s.count_n
      ∙ leads_right C (points_of P) m.cells b l.cells cells_fit s.cells

  shape_clear : first (shape_rows b l) ≡ 0
  unfolding shape_rows first
  shape_clear = rw (leads_are, types_right) refl

  body_clear : first (body_rows b l) ≡ 0
  unfolding body_rows
  body_clear = goes_on (shape_rows b l) _ (shape_proper b l) refl shape_clear ∙ contents_clear b (blocks_of l) P C m says

  file_clear : first (file_rows (Ok l) b) ≡ 0
  unfolding file_rows layout_rows layout_of stopped first
  file_clear = body_clear

-- the layout of such a file is found
record LocatedAt (P C b : List ℕ) : Type 0 where
  layout : Layout
  found : located_of b ≡ Ok layout
  stand : Stand P C b layout

module _ (title P C : List ℕ) (m : Mesh P C) (plain : is_title title ≡ true) where
  locates : LocatedAt P C (vtk_file title P C)
  unfolding vtk_file
  locates = by_standing (stands title (points_of P) (cells_of C) (bytes_of true P) (bytes_of true (led C)) (bytes_of true (types_of (cells_of C))) (bytes_of true (component_numbers C (cells_of C))) _ plain
      (omega (arith, m.cells.small))
      (omega (arith, m.cells.few))
      (omega (arith, length_bytes true P, m.points))
      (omega (arith, length_bytes true (led C), length_led C))
      (omega (arith, length_bytes true (types_of (cells_of C)), length-replicate {A = ℕ} (cells_of C) 10))
      (omega (arith, length_bytes true (component_numbers C (cells_of C)), length_components C (cells_of C)))
      refl)
    where
      b : List ℕ
      b = written title (points_of P) (cells_of C) (bytes_of true P) (bytes_of true (led C)) (bytes_of true (types_of (cells_of C))) (bytes_of true (component_numbers C (cells_of C)))

      by_standing : Standing b (points_of P) (cells_of C) (bytes_of true P) (bytes_of true (led C)) (bytes_of true (types_of (cells_of C))) (bytes_of true (component_numbers C (cells_of C)))
          → LocatedAt P C b
      by_standing s =
          let l : Layout = record { p = points_of P; n = cells_of C; points = s.points; cells = s.cells; types = s.types; numbers = s.numbers } in
          record {
            layout = l;
            found = s.found;
            stand = record {
              laid = located_laid b l s.found;
              count_p = refl;
              count_n = refl;
              points = s.points_are;
              cells = s.cells_are;
              types = s.types_are;
              numbers = s.numbers_are;
            };
          }

-- ---- two different meshes have different files, and so have two titles

-- bytes up to the first line feed
title_told : (t t' r r' : List ℕ) → no_feed t ≡ true → no_feed t' ≡ true → t ++ (10 ∷ r) ≡ t' ++ (10 ∷ r') → t ≡ t'
unfolding no_feed
title_told [] [] r r' n n' e = refl
title_told [] (y ∷ t') r r' n n' e = absurd (eqb-false y 10 (not-true (eqb y 10) (and_left (not (eqb y 10)) (no_feed t') n')) (cc))
title_told (x ∷ t) [] r r' n n' e = absurd (eqb-false x 10 (not-true (eqb x 10) (and_left (not (eqb x 10)) (no_feed t) n)) (cc))
title_told (x ∷ t) (y ∷ t') r r' n n' e =
    let h : x ≡ y = cc in
    ap₂ (λ (k : ℕ) (l : List ℕ). k ∷ l) h (title_told t t' r r' (and_right (not (eqb x 10)) (no_feed t) n) (and_right (not (eqb y 10)) (no_feed t') n') (cc))

module _ (t P C t' P' C' : List ℕ) (m : Mesh P C) (m' : Mesh P' C') (plain : is_title t ≡ true) (plain' : is_title t' ≡ true) (e : vtk_file t P C ≡ vtk_file t' P' C') where
  same_mesh : LocatedAt P C (vtk_file t P C) → LocatedAt P' C' (vtk_file t' P' C') → (P ≡ P') × (C ≡ C')
  same_mesh k k' =
      let q : Ok k.layout ≡ Ok k'.layout = sym k.found ∙ ap located_of e ∙ k'.found in
      let l : k.layout ≡ k'.layout = cc in
      let a = says P C m (vtk_file t P C) k.layout k.stand in
      let a' = says P' C' m' (vtk_file t' P' C') k'.layout k'.stand in (
        sym a.points ∙ ap₂ (λ (b : List ℕ) (j : Layout). points_in b (blocks_of j)) e l ∙ a'.points,
        sym a.cells ∙ ap₂ (λ (b : List ℕ) (j : Layout). cells_in b (blocks_of j)) e l ∙ a'.cells,
      )

  same_title : t ≡ t'
  unfolding vtk_file written feed text_of
  same_title =
      title_told t t' _ _ (and_right (leb (length t) 255) (no_feed t) plain) (and_right (leb (length t') 255) (no_feed t') plain')
      (sym (drop-append_seam version_line _) ∙ ap (drop (length version_line)) e ∙ drop-append_seam version_line _)

  pub files_differ : (t ≡ t') × (P ≡ P') × (C ≡ C')
  files_differ = let s = same_mesh (locates t P C m plain) (locates t' P' C' m' plain') in (same_title, s.0, s.1)

-- ---- the numbers

-- every row's number is one of these
within : List ℕ → List Row → Bool
within ks [] = true
within ks (k when t ∷ l) = among k ks && within ks l

first_within : (ks : List ℕ) (l : List Row) → among 0 ks ≡ true → within ks l ≡ true → among (first l) ks ≡ true
unfolding first within
first_within ks [] z h = z
first_within ks (k when true ∷ l) z h = and_left (among k ks) (within ks l) h
first_within ks (k when false ∷ l) z h = first_within ks l z (and_right (among k ks) (within ks l) h)

abbrev pub read_numbers : List ℕ
read_numbers = 0 ∷ 4 ∷ 8 ∷ 9 ∷ 11 ∷ 12 ∷ 13 ∷ 14 ∷ 15 ∷ []

-- a file is answered with 0, or refused with one of the others
pub read_numbers_lem : (b x y w : List ℕ) {r : Result Loaded LoadError} {x' y' w' : List ℕ} → ReadDone b x y w r x' y' w' → among (number_of r) read_numbers ≡ true
unfolding among within file_rows layout_rows body_rows shape_rows content_rows count_rows name_rows table_rows room_rows number_rows
read_numbers_lem b x y w d =
    ap (λ (k : ℕ). among k read_numbers) (read_number_lem (file_rows (located_of b) b) b (blocks_of (layout_of (located_of b))) x y w d)
    ∙ first_within read_numbers _ refl refl

-- ---- what is written reads back

pub plain_title : is_title our_title ≡ true
unfolding our_title no_feed text_of
plain_title = refl

-- a file of a mesh, with any title, reads as that mesh
pub file_reads : (title P C : List ℕ) → Mesh P C → is_title title ≡ true → (x y v : List ℕ) {a : Result Loaded LoadError} {x' y' v' : List ℕ}
    → Room (length x) (length y) (length v) (points_of P) (cells_of C) → ReadDone (vtk_file title P C) x y v a x' y' v' → Back P C x y v a x' y' v'
unfolding layout_of
file_reads title P C m plain x y v {a} {x'} {y'} {v'} r d = by_layout (locates title P C m plain)
  where
    by_layout : LocatedAt P C (vtk_file title P C) → Back P C x y v a x' y' v'
    by_layout k =
        reads_mesh (file_rows (Ok k.layout) (vtk_file title P C)) (vtk_file title P C) (blocks_of k.layout) x y v
        (subst (λ (j : Result Layout Refusal). Reads (file_rows j (vtk_file title P C)) (vtk_file title P C) (blocks_of (layout_of j)) x y v a x' y' v') k.found d) P C
        (file_proper (Ok k.layout) (vtk_file title P C)) (file_clear P C m (vtk_file title P C) k.layout k.stand) m
        (says P C m (vtk_file title P C) k.layout k.stand) r

-- an answer of `write_vtk`
module _ (P C o w : List ℕ) {bytes : ℕ} {o' w' : List ℕ} (bits : all_below 4294967296 P ≡ true) (d : WriteDone P C o w (Ok bytes) o' w') where
  pub written_mesh : Mesh P C
  written_mesh = taken 2 (vtk_bytes P C) (vtk_file our_title P C) P C o w d bits

  -- the bytes that it leaves in the file's table are the file
  pub written_file : take bytes o' ≡ vtk_file our_title P C
  written_file = file_left 2 (vtk_bytes P C) (vtk_file our_title P C) P C o w d (length_file P C written_mesh.points)

  -- and read with room, they are the mesh that was written
  pub reads_back : (x y v : List ℕ) {a : Result Loaded LoadError} {x' y' v' : List ℕ} → Room (length x) (length y) (length v) (points_of P) (cells_of C)
      → ReadDone (take bytes o') x y v a x' y' v' → Back P C x y v a x' y' v'
  reads_back x y v {a} {x'} {y'} {v'} r l =
      file_reads our_title P C written_mesh plain_title x y v r (subst (λ (b : List ℕ). ReadDone b x y v a x' y' v') written_file l)

-- ---- what is read is a mesh, and the bytes are its file

-- the blocks of a file that reads are those that are written for what is read
module _ (b : List ℕ) (s : all_below 256 b ≡ true) (l : Layout) (h : Laid b l) (z : first (body_rows b l) ≡ 0) where
  abbrev P : List ℕ
  P = points_in b (blocks_of l)

  abbrev C : List ℕ
  C = cells_in b (blocks_of l)

  mesh_is : Mesh P C
  mesh_is = mesh_in b (blocks_of l) s (laid_stands b l h) (named b l z)

  count_points : points_of P ≡ l.p
  unfolding blocks_of
  count_points = omega (arith, length_words true b l.points (3 * l.p))

  count_cells : cells_of C ≡ l.n
  unfolding blocks_of
  count_cells = cells_in_lem b (blocks_of l)

  points_bytes : take (12 * l.p) (drop l.points b) ≡ bytes_of true P
  unfolding blocks_of
  points_bytes =
      let e : 12 * l.p ≡ 4 * (3 * l.p) = omega arith in
      ap (λ (k : ℕ). take k (drop l.points b)) e ∙ sym (words_bytes true b l.points (3 * l.p) s (omega (arith, h.points_in_lem)))

  cells_bytes : take (20 * l.n) (drop l.cells b) ≡ bytes_of true (led C)
  unfolding blocks_of
  cells_bytes =
      let e : 20 * l.n ≡ 4 * (5 * l.n) = omega arith in
      ap (λ (k : ℕ). take k (drop l.cells b)) e ∙ sym (words_bytes true b l.cells (5 * l.n) s (omega (arith, h.cells_in_lem)))
      ∙ ap (bytes_of true) (led_is b l.cells l.n (led_all b l z))

  types_bytes : take (4 * l.n) (drop l.types b) ≡ bytes_of true (types_of l.n)
  types_bytes = sym (words_bytes true b l.types l.n s h.types_in_lem) ∙ ap (bytes_of true) (same_eq (types_in b l.n l.types) (replicate l.n 10) (typed b l z))

  numbers_bytes : same (numbers_in b (blocks_of l)) (component_numbers C (blocks_of l).n) ≡ true → take (4 * l.n) (drop l.numbers b) ≡ bytes_of true (component_numbers C l.n)
  unfolding blocks_of
  numbers_bytes r = sym (words_bytes true b l.numbers l.n s h.numbers_in_lem) ∙ ap (bytes_of true) (same_eq (numbers_in b (blocks_of l)) (component_numbers C l.n) r)

  bytes_are : same (numbers_in b (blocks_of l)) (component_numbers C (blocks_of l).n) ≡ true → b ≡ vtk_file h.title P C
  unfolding vtk_file
  bytes_are r =
      h.bytes
      ∙ ap₂ (λ (u v : List ℕ). written h.title l.p l.n u v (take (4 * l.n) (drop l.types b)) (take (4 * l.n) (drop l.numbers b))) points_bytes cells_bytes
      ∙ ap₂ (λ (u v : List ℕ). written h.title l.p l.n (bytes_of true P) (bytes_of true (led C)) u v) types_bytes (numbers_bytes r)
      ∙ ap₂ (λ (i j : ℕ). written h.title i j (bytes_of true P) (bytes_of true (led C)) (bytes_of true (types_of j)) (bytes_of true (component_numbers C j))) (sym count_points) (sym count_cells)

-- an answer of `read_vtk`: points and cells in front of the tables
pub record Given (b x' y' : List ℕ) (p n : ℕ) : Type 0 where
  pub title : List ℕ
  pub plain : is_title title ≡ true
  pub mesh : Mesh (take (3 * p) x') (take (4 * n) y')
  pub points : points_of (take (3 * p) x') ≡ p
  pub cells : cells_of (take (4 * n) y') ≡ n
  pub bytes : b ≡ vtk_file title (take (3 * p) x') (take (4 * n) y')

given_by : (b : List ℕ) → all_below 256 b ≡ true → (l : Layout) → Laid b l → {p n : ℕ} (x' y' : List ℕ) → Answered (file_rows (Ok l) b) b (blocks_of l) p n x' y'
    → Given b x' y' p n
unfolding file_rows layout_rows layout_of stopped first
given_by b s l h {p} {n} x' y' a =
    let z : first (body_rows b l) ≡ 0 = a.clear_rows in
    record {
      title = h.title;
      plain = h.plain;
      mesh = subst₂ Mesh (sym a.points) (sym a.cells) (mesh_is b s l h z);
      points = ap points_of a.points ∙ count_points b s l h z ∙ unfold blocks_of in a.count_points;
      cells = ap cells_of a.cells ∙ count_cells b s l h z ∙ unfold blocks_of in a.count_cells;
      bytes = bytes_are b s l h z a.right ∙ ap₂ (vtk_file h.title) (sym a.points) (sym a.cells);
    }

pub read_given : (b x y w : List ℕ) {p n : ℕ} {x' y' w' : List ℕ} → all_below 256 b ≡ true → ReadDone b x y w (done p n) x' y' w' → Given b x' y' p n
unfolding layout_of
read_given b x y w {p} {n} {x'} {y'} s d =
    by_layout (located_of b) refl (read_answered (file_rows (located_of b) b) b (blocks_of (layout_of (located_of b))) x y w (file_proper (located_of b) b) d)
  where
    by_layout : (k : Result Layout Refusal) → located_of b ≡ k → Answered (file_rows (located_of b) b) b (blocks_of (layout_of (located_of b))) p n x' y' → Given b x' y' p n
    by_layout (Err k) e a = absurd (stopped_refuses b k e a.clear_rows)
    by_layout (Ok l) e a =
        given_by b s l (located_laid b l e) x' y' (subst (λ (j : Result Layout Refusal). Answered (file_rows j b) b (blocks_of (layout_of j)) p n x' y') e a)

-- so no other bytes read as that mesh, but for the title
pub one_file : (b x y b' x' y' : List ℕ) {p n p' n' : ℕ} (g : Given b x y p n) (g' : Given b' x' y' p' n')
    → take (3 * p) x ≡ take (3 * p') x' → take (4 * n) y ≡ take (4 * n') y' → g.title ≡ g'.title → b ≡ b'
one_file b x y b' x' y' {p} {n} {p'} {n'} g g' ep ec t =
    g.bytes ∙ ap₂ (vtk_file g.title) ep ec ∙ ap (λ (s : List ℕ). vtk_file s (take (3 * p') x') (take (4 * n') y')) t ∙ sym g'.bytes
