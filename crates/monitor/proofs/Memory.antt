-- The memory of a table against the table: what a write, a new column and a new subject come to.
use Rattle.std.proofs.Common.{◌≡◌, ℕ, zero, suc, ◌+◌, ◌<◌, ◌≤◌, List, [], ◌∷◌, ◌++◌, map, length, get_or, take, set, replicate, vec_items, sym, refl, ap, ◌∙◌, arith}
use Rattle.std.specs.List.{All}
use Rattle.std.proofs.lemmas.List.{map-set, map_push, take_more, get_or-map, take-replicate, length-map, length_push, length-replicate, length-take}
use Rattle.std.proofs.lemmas.Grind.{common_steps}
use Rattle.std.proofs.lemmas.List.Elements.{All-head, All-tail}
use Rattle.rights.specs.Sets.{nothing}
use Rattle.monitor.specs.Columns.{Cells}
use Rattle.monitor.specs.declared.table.Table.TheInside.{Inside}
use Rattle.monitor.specs.States.{State, no_object, with_subject, with_object, with_cell, WellFormed}
use Rattle.monitor.specs.Columns.{object_of, Blank}
use Rattle.monitor.specs.Tables.{state_of, Sound}

pub take_set_lt : {X : Type 0} (n : ℕ) (l : List X) (i : ℕ) (a : X) → i < n → take n (set l i a) ≡ set (take n l) i a
take_set_lt zero l i a h = absurd (omega arith)
take_set_lt (suc n) [] i a h = refl
take_set_lt (suc n) (y ∷ ys) zero a h = refl
take_set_lt (suc n) (y ∷ ys) (suc i) a h = ap (λ t. y ∷ t) (take_set_lt n ys i a (omega arith))

abbrev pub table : List ℕ → List Cells → State
table types columns = record { subjects = types; objects = map (object_of (length types)) columns }

-- one cell written
pub table_put : (types : List ℕ) (cs : List Cells) (s o x : ℕ) (c : Cells)
    → s < length types → o < length cs → c ≡ get_or cs o c
    → table types (set cs o (record { kind = c.kind; cells = set c.cells s x })) ≡ with_cell (table types cs) s o x
table_put types cs s o x c ls lo here =
    let f = object_of (length types) in
    let read : get_or (map f cs) o no_object ≡ f c = get_or-map f cs o c no_object lo ∙ ap f (sym here) in
    rw (map-set, take_set_lt, read)

-- a column pushed, in which nobody holds anything
abbrev pub fresh : ℕ → Cells
fresh kind = record { kind = kind; cells = replicate 64 nothing }

pub table_object : (types : List ℕ) (cs : List Cells) (kind : ℕ) → length types ≤ 64
    → table types (cs ++ fresh kind ∷ []) ≡ with_object (table types cs) kind
table_object types cs kind l = rw (map_push, take-replicate)

all_empty : (k s : ℕ) → get_or (replicate k nothing) s nothing ≡ nothing
all_empty k s = grind (arith, common_steps)

pub fresh_blank : (n kind : ℕ) → Blank n (fresh kind)
fresh_blank n kind = record { full = length-replicate 64 nothing; rest = λ s h. all_empty 64 s }

-- a subject pushed
widened : (n : ℕ) (cs : List Cells) → n < 64 → All (Blank n) cs
    → map (object_of (n + 1)) cs
    ≡ map (λ x. record { type = x.type; cells = x.cells ++ nothing ∷ [] }) (map (object_of n) cs)
widened n [] l blank = refl
widened n (c ∷ cs) l blank =
    let here = All-head (Blank n) c cs blank in
    let more : take (n + 1) c.cells ≡ take n c.cells ++ nothing ∷ []
    = take_more c.cells n nothing (omega (arith, here.full)) ∙ rw (here.rest n (omega arith)) in
    rw (more, widened n cs l (All-tail (Blank n) c cs blank))

pub table_subject : (types : List ℕ) (kind : ℕ) (cs : List Cells)
    → length types < 64 → All (Blank (length types)) cs
    → table (types ++ kind ∷ []) cs ≡ with_subject (table types cs) kind
table_subject types kind cs l blank = rw (length_push types kind, widened (length types) cs l blank)

pub well_formed : (t : Inside) → Sound t → WellFormed (state_of t)
well_formed t sound = record {
  few = omega (arith, sound.few_subjects, t.subjects.ok.0);
  square = λ o l.
      let n = length (vec_items t.subjects) in
      let cs = vec_items t.columns in
      let lo : o < length cs = omega (arith, length-map cs (object_of n)) in
      let full = (sound.blank o (fresh 0) lo).full in
      rw (get_or-map (object_of n) cs o (fresh 0) no_object lo, length-take)
      (omega (arith, full, sound.few_subjects, t.subjects.ok.0));
}
