-- Creations: a pair that has none is new among the pairs, and so there is room for it.
use Rattle.std.proofs.Common.{◌≡◌, ℕ, ◌<◌, Bool, true, false, cond, eqb, ltb, List, [], ◌∷◌, ◌++◌, map, length, is_some, Some, Option, refl, sym, ap, ◌∙◌, arith}
use Rattle.std.proofs.lemmas.List.{map_push, length-map, length_push}
use Rattle.std.proofs.lemmas.List.Recursion.{and_push}
use Rattle.std.proofs.lemmas.Bool.{and_parts, and_from, or_from, ltb-true, lt-ltb, eq-eqb, ne_eqb, false≢true}
use Rattle.std.specs.List.{find, list_all}
use Rattle.std.specs.Option.{option_map}
use Rattle.rows.specs.Lists.{listed, twice, all_below}
use Rattle.rows.specs.Rules.{Rule, CreationRule, is_pair, created}
use Rattle.rows.specs.Room.{pair_number, types_in_range, HasRoom}
use Rattle.rows.proofs.Numbers.{twice_push, apart_short}

abbrev InRange : CreationRule → Type 0
InRange c = (c.by < 16) × (c.on < 16)

range_of : (c : CreationRule) → types_in_range c ≡ true → InRange c
range_of c h = let p = and_parts (ltb c.by 16) (ltb c.on 16) h in (ltb-true c.by 16 p.0, ltb-true c.on 16 p.1)

of_range : (c : CreationRule) → InRange c → types_in_range c ≡ true
of_range c r = and_from (ltb c.by 16) (ltb c.on 16) (lt-ltb c.by 16 r.0) (lt-ltb c.on 16 r.1)

pairs_below : (cs : List CreationRule) → list_all types_in_range cs ≡ true → all_below 256 (map pair_number cs) ≡ true
pairs_below [] h = refl
pairs_below (c ∷ cs) h =
    let p = and_parts (types_in_range c) (list_all types_in_range cs) h in
    let r = range_of c p.0 in
    and_from (ltb (pair_number c) 256) (all_below 256 (map pair_number cs)) (lt-ltb (pair_number c) 256 (omega (arith, r))) (pairs_below cs p.1)

-- the creation here is for another pair, or it was found
other_pair : (c d : CreationRule) → InRange c → InRange d → is_pair c.by c.on d ≡ false → eqb (pair_number c) (pair_number d) ≡ false
other_pair c d r s h =
    ne_eqb (pair_number c) (pair_number d) (λ e.
    let by : d.by ≡ c.by = omega arith in
    let on : d.on ≡ c.on = omega arith in
    false≢true (sym h ∙ and_from (eqb d.by c.by) (eqb d.on c.on) (eq-eqb d.by c.by by) (eq-eqb d.on c.on on)))

not_found : (b : Bool) (d : CreationRule) (later : Option CreationRule) → is_some (option_map (λ x. x.gets) (cond b (Some d) later)) ≡ false
    → (b ≡ false) × (is_some (option_map (λ x. x.gets) later) ≡ false)
not_found true d later h = absurd (false≢true (sym h))
not_found false d later h = (refl, h)

new_pair : (c : CreationRule) → InRange c → (cs : List CreationRule) → list_all types_in_range cs ≡ true → is_some (created c.by c.on cs) ≡ false → listed (pair_number c) (map pair_number cs) ≡ false
new_pair c r [] k h = refl
new_pair c r (d ∷ ds) k h =
    let q = and_parts (types_in_range d) (list_all types_in_range ds) k in
    let p = not_found (is_pair c.by c.on d) d (find (is_pair c.by c.on) ds) h in
    or_from (eqb (pair_number c) (pair_number d)) (listed (pair_number c) (map pair_number ds)) (other_pair c d r (range_of d q.0) p.0) (new_pair c r ds q.1 p.1)

module _ (c : CreationRule) (r : InRange c) {rules : List Rule} {row_places : ℕ} {cs : List CreationRule} {places : ℕ}
    (room : HasRoom rules row_places cs places) (new : is_some (created c.by c.on cs) ≡ false) where
  in_range : list_all types_in_range (cs ++ c ∷ []) ≡ true
  in_range =
      and_push (list_all types_in_range) types_in_range refl (λ _ _. refl) cs c
      ∙ and_from (list_all types_in_range cs) (types_in_range c) room.in_range (of_range c r)

  apart : twice (map pair_number (cs ++ c ∷ [])) ≡ false
  apart =
      ap twice (map_push pair_number cs c) ∙ twice_push (map pair_number cs) (pair_number c)
      ∙ or_from (twice (map pair_number cs)) (listed (pair_number c) (map pair_number cs)) room.apart (new_pair c r cs room.in_range new)

  pub room_left : length cs < places
  room_left =
      let short = apart_short 256 (map pair_number (cs ++ c ∷ [])) (pairs_below (cs ++ c ∷ []) in_range) apart in
      omega (arith, room.creation_room, length-map (cs ++ c ∷ []) pair_number, length_push cs c)

  pub still_room : (ds : List CreationRule) → ds ≡ cs ++ c ∷ [] → HasRoom rules row_places ds places
  still_room ds is = record {
    few_rows = room.few_rows;
    row_room = room.row_room;
    in_range = ap (list_all types_in_range) is ∙ in_range;
    apart = ap (λ l. twice (map pair_number l)) is ∙ apart;
    creation_room = room.creation_room;
  }
