-- Creations: which one is found for a pair, and that each is found that lines declared.
use Rattle.std.proofs.Common.{◌≡◌, ℕ, Bool, true, false, cond, eqb, List, [], ◌∷◌, ◌++◌, Some, None, Option, sym, refl, ap, ◌∙◌, subst, inl, inr}
use Rattle.std.specs.List.{find}
use Rattle.std.specs.Option.{option_map, option_or}
use Rattle.std.proofs.lemmas.List.Folds.{find-append}
use Rattle.std.proofs.lemmas.Option.{none-some}
use Rattle.std.proofs.lemmas.Bool.{and_parts, and_from, eqb-true, eq-eqb, cond-true}
use Rattle.rows.specs.Rules.{CreationRule, Book, is_pair, created}
use Rattle.meaning.specs.Named.{Names}
use Rattle.meaning.specs.Forms.{Form}
use Rattle.meaning.specs.Means.{In}
use Rattle.meaning.proofs.Standing.{in_push}
use Rattle.meaning.proofs.Booking.{Entry, rule_entry, creation_entry, mark_entry, with_entry, Room, Lines, no_line, one_line, asks_nothing, asks}

-- the creation of a pair that is found is in the list
abbrev pub Brings : ℕ → ℕ → ℕ → List CreationRule → Type 0
Brings u o set cs = (c : CreationRule) × In c cs × (c.by ≡ u) × (c.on ≡ o) × (c.gets ≡ set)

module _ (u o : ℕ) where
  pub created_in : (cs : List CreationRule) (set : ℕ) → created u o cs ≡ Some set → Brings u o set cs
  created_in [] set e = absurd (none-some set e)
  created_in (c ∷ cs) set e = by (is_pair u o c) refl e (created_in cs set) where
    by : (t : Bool) → is_pair u o c ≡ t → option_map (λ d. d.gets) (cond t (Some c) (find (is_pair u o) cs)) ≡ Some set → (created u o cs ≡ Some set → Brings u o set cs)
        → Brings u o set (c ∷ cs)
    by true is h later =
        let (p, q) = and_parts (eqb c.by u) (eqb c.on o) is in
        (c, inl refl, eqb-true c.by u p, eqb-true c.on o q, cc)
    by false is h later = let (d, i, p, q, s) = later h in (d, inr i, p, q, s)

  created_front : (cs ds : List CreationRule) (set : ℕ) → created u o cs ≡ Some set → created u o (cs ++ ds) ≡ Some set
  created_front cs ds set e = ap (option_map (λ d. d.gets)) (find-append (is_pair u o) cs ds) ∙ stays (find (is_pair u o) cs) e where
    stays : (first : Option CreationRule) → option_map (λ d. d.gets) first ≡ Some set → option_map (λ d. d.gets) (option_or first (find (is_pair u o) ds)) ≡ Some set
    stays None e = absurd (none-some set e)
    stays (Some c) e = e

  created_back : (cs ds : List CreationRule) → created u o cs ≡ None → created u o (cs ++ ds) ≡ created u o ds
  created_back cs ds e = ap (option_map (λ d. d.gets)) (find-append (is_pair u o) cs ds) ∙ falls (find (is_pair u o) cs) e where
    falls : (first : Option CreationRule) → option_map (λ d. d.gets) first ≡ None → option_map (λ d. d.gets) (option_or first (find (is_pair u o) ds)) ≡ created u o ds
    falls None e = refl
    falls (Some c) e = absurd (none-some c.gets (sym e))

-- each creation of the list is the one that is found for its pair
abbrev pub EachFound : List CreationRule → Type 0
EachFound cs = (c : CreationRule) → In c cs → created c.by c.on cs ≡ Some c.gets

found_push : (cs : List CreationRule) (d : CreationRule) → created d.by d.on cs ≡ None → EachFound cs → EachFound (cs ++ (d ∷ []))
found_push cs d none each c i =
    elim (in_push c d cs i) [
      | inl old ↦ created_front c.by c.on cs (d ∷ []) c.gets (each c old)
      | inr e ↦ subst (λ x. created x.by x.on (cs ++ (d ∷ [])) ≡ Some x.gets) (sym e) (created_back d.by d.on cs (d ∷ []) none ∙ itself)
    ] where
      itself : created d.by d.on (d ∷ []) ≡ Some d.gets
      itself =
          ap (option_map (λ x. x.gets))
          (cond-true (is_pair d.by d.on d) (Some d) None
          (and_from (eqb d.by d.by) (eqb d.on d.on) (eq-eqb d.by d.by refl) (eq-eqb d.on d.on refl)))

found_with : (b : Book) (e : Entry) → Room b e → EachFound b.creations → EachFound (with_entry b e).creations
found_with b (rule_entry rule) room each = each
found_with b (creation_entry c) room each = found_push b.creations c room each
found_with b (mark_entry r) room each = each

pub each_found : (names : Names) {fs : List Form} {b end : Book} → Lines names fs b end → EachFound b.creations → EachFound end.creations
each_found names no_line each = each
each_found names {b = b} (one_line (asks_nothing there same) ls) each = each_found names ls (subst (λ c. EachFound c.creations) (sym same) each)
each_found names {b = b} (one_line (asks e room from there same) ls) each =
    each_found names ls (subst (λ c. EachFound c.creations) (sym same) (found_with b e room each))
