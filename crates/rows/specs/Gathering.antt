-- What rules give together: one more at a time, more for who holds more, and which rule gave it.
use Rattle.std.specs.Prelude.{◌≡◌, ℕ, zero, suc, ◌<◌, Bool, true, false, cond, ◌&&◌, T, List, [], ◌∷◌, length, Some, None, Option, ◌==◌, nat_eq, slice_index_or, refl}
use Rattle.std.proofs.Common.{sym, ap, subst, inl, inr, arith, le_of_suc-le-suc, eqb→eq}
use Rattle.std.proofs.Math.Dec.{eqb_refl}
use Rattle.std.specs.Option.{option_eq}
use Rattle.rights.specs.Sets.{nothing, has, inside, Within}
use Rattle.rights.proofs.Truth.{T_and, and_T, t_or, or_T_left, or_T_right}
use Rattle.rights.proofs.SetLaws.{joined, none_has, either_within, when_within, inside_within, within_inside}
use Rattle.books.specs.Meaning.{Lawful}
use Rattle.rows.specs.Rules.{Rule, Book, applies, gathered, book_meaning, no_rule, Gives, Given, RulesMean}

pub same_option : (a b : Option ℕ) → T (option_eq nat_eq a b) → a ≡ b
same_option None None t = refl
same_option None (Some v) t = absurd t
same_option (Some u) None t = absurd t
same_option (Some u) (Some v) t = ap Some (eqb→eq u v t)

pub option_refl : (a : Option ℕ) → T (option_eq nat_eq a a)
option_refl None = tt
option_refl (Some u) = eqb_refl u

module _ (u : ℕ) (receiver : Option ℕ) (o : ℕ) where
  -- the test as it stands, taken apart and put together
  applies_parts : (held : ℕ) (rule : Rule) → T (applies u receiver o held rule)
      → T (rule.by == u && option_eq nat_eq rule.receiver receiver && rule.on == o) × T (inside rule.need held)
  applies_parts held rule = T_and (rule.by == u && option_eq nat_eq rule.receiver receiver && rule.on == o) (inside rule.need held)

  applies_more : (held more : ℕ) → Within held more → (rule : Rule) → T (applies u receiver o held rule) → T (applies u receiver o more rule)
  applies_more held more w rule t =
      let p = applies_parts held rule t in
      and_T (rule.by == u && option_eq nat_eq rule.receiver receiver && rule.on == o) (inside rule.need more) p.0
      (within_inside rule.need more (λ r h. w r (inside_within rule.need held p.1 r h)))

  pub gathered_more : (held more : ℕ) → Within held more → (rules : List Rule) → Within (gathered u receiver o held rules) (gathered u receiver o more rules)
  gathered_more held more w [] = λ r t. t
  gathered_more held more w (rule ∷ rules) =
      either_within _ (gathered u receiver o held rules) _ (gathered u receiver o more rules)
      (when_within (applies u receiver o held rule) (applies u receiver o more rule) rule.gives (applies_more held more w rule))
      (gathered_more held more w rules)

  module _ (held r : ℕ) where
    gives_from : (rule : Rule) → T (has (cond (applies u receiver o held rule) rule.gives nothing) r) → Gives u receiver o held r rule
    gives_from rule t = from (applies u receiver o held rule) refl t where
      from : (b : Bool) → applies u receiver o held rule ≡ b → T (has (cond b rule.gives nothing) r) → Gives u receiver o held r rule
      from false e g = absurd (none_has r g)
      from true e g =
          let p = applies_parts held rule (subst T (sym e) tt) in
          let q = T_and (rule.by == u && option_eq nat_eq rule.receiver receiver) (rule.on == o) p.0 in
          let s = T_and (rule.by == u) (option_eq nat_eq rule.receiver receiver) q.0 in
          record {
            its_by = eqb→eq rule.by u s.0;
            its_receiver = same_option rule.receiver receiver s.1;
            its_on = eqb→eq rule.on o q.1;
            its_need = inside_within rule.need held p.1;
            its_gift = g;
          }

    gives_to : (rule : Rule) → Gives u receiver o held r rule → T (has (cond (applies u receiver o held rule) rule.gives nothing) r)
    gives_to rule g =
        let t : T (applies u receiver o held rule)
        = and_T (rule.by == u && option_eq nat_eq rule.receiver receiver && rule.on == o) (inside rule.need held)
        (and_T (rule.by == u && option_eq nat_eq rule.receiver receiver) (rule.on == o)
        (and_T (rule.by == u) (option_eq nat_eq rule.receiver receiver)
        (subst (λ x. T (rule.by == x)) g.its_by (eqb_refl rule.by))
        (subst (λ x. T (option_eq nat_eq rule.receiver x)) g.its_receiver (option_refl rule.receiver)))
        (subst (λ x. T (rule.on == x)) g.its_on (eqb_refl rule.on)))
        (within_inside rule.need held g.its_need) in
        to (applies u receiver o held rule) t where
          to : (b : Bool) → T b → T (has (cond b rule.gives nothing) r)
          to true t = g.its_gift
          to false t = absurd t

    pub given_shown : (rules : List Rule) → T (has (gathered u receiver o held rules) r) → Given u receiver o held r rules
    given_shown [] t = absurd (none_has r t)
    given_shown (rule ∷ rules) t =
        let here = cond (applies u receiver o held rule) rule.gives nothing in
        let rest = gathered u receiver o held rules in
        elim (t_or (has here r) (has rest r) (subst T (joined here rest r) t)) [
          | inl h ↦ (zero, omega arith, gives_from rule h)
          | inr h ↦ let found = given_shown rules h in (suc found.0, let l = found.1 in omega arith, found.2)
        ]

    pub given_found : (rules : List Rule) (k : ℕ) → k < length rules → Gives u receiver o held r (slice_index_or rules k no_rule) → T (has (gathered u receiver o held rules) r)
    given_found [] k l g = absurd (omega arith)
    given_found (rule ∷ rules) zero l g =
        let here = cond (applies u receiver o held rule) rule.gives nothing in
        let rest = gathered u receiver o held rules in
        subst T (sym (joined here rest r)) (or_T_left (has here r) (has rest r) (gives_to rule g))
    given_found (rule ∷ rules) (suc k) l g =
        let here = cond (applies u receiver o held rule) rule.gives nothing in
        let rest = gathered u receiver o held rules in
        subst T (sym (joined here rest r)) (or_T_right (has here r) (has rest r) (given_found rules k (le_of_suc-le-suc l) g))

pub rules_mean : RulesMean
rules_mean = record {
  shown = λ u receiver o held r rules t. given_shown u receiver o held r rules t;
  found = λ u receiver o held r rules g. given_found u receiver o held r rules g.0 g.1 g.2;
}

pub book_lawful : (b : Book) → Lawful (book_meaning b)
book_lawful b = record {
  adds_more = λ u o held more w. gathered_more u None o held more w b.rules;
  gives_more = λ u v o held more w. gathered_more u (Some v) o held more w b.rules;
}
