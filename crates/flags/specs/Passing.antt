-- What held flags pass on: one flag more, the same said flag by flag, and that more held rights pass on more.
use Rattle.std.specs.Prelude.{◌≡◌, ℕ, zero, suc, ◌-◌, ◌≤◌, Bool, true, false, cond, ◌&&◌, T, ◌⊎◌, refl}
use Rattle.std.proofs.Common.{sym, ap, subst, ◌∙◌, inl, inr, arith}
use Rattle.std.proofs.lemmas.Bool.{cases_eq}
use Rattle.rights.specs.Sets.{nothing, has, add, either, below, Within}
use Rattle.rights.proofs.Truth.{t_or, or_T_left, or_T_right, T_and, and_T}
use Rattle.rights.proofs.SetLaws.{joined, none_has, add_has, add_keeps, add_only, initial, filled}
use Rattle.books.specs.Meaning.{Lawful}
use Rattle.flags.specs.declared.settings.Settings.{Settings}
use Rattle.flags.specs.Flags.{access_right, unlimited_flag, chosen, flag_gives, counted_give, unlimited_gives, flags_give, holds_flag, flags_meaning, ByCounted, ByUnlimited, PassesOn, HoldsCounted, AddsAccess, FlagsMean}

-- no flag yet
pub counted_none : (held : ℕ) → counted_give 0 held ≡ nothing
unfolding counted_give
counted_none held = refl

-- one turn of a loop over the flags 1, 2, .., where it goes on and where it ends
pub counted_next : (k held m : ℕ) → 1 ≤ k → m ≡ k → either (counted_give (k - 1) held) (flag_gives k held) ≡ counted_give m held
unfolding counted_give
counted_next zero held m l e = absurd (omega arith)
counted_next (suc j) held m l e =
    let last : suc j - 1 ≡ j = omega arith in
    ap (λ x. either (counted_give x held) (flag_gives (suc j) held)) last ∙ sym (ap (λ x. counted_give x held) e)

-- a set given under a condition
when_has : (t : Bool) (x r : ℕ) → T (has (cond t x nothing) r) → T t × T (has x r)
when_has true x r h = (tt, h)
when_has false x r h = absurd (none_has r h)

has_when : (t : Bool) (x r : ℕ) → T t → T (has x r) → T (has (cond t x nothing) r)
has_when true x r t h = h
has_when false x r t h = absurd t

-- the members of a union
either_only : (a b r : ℕ) → T (has (either a b) r) → T (has a r) ⊎ T (has b r)
either_only a b r t = t_or (has a r) (has b r) (subst T (joined a b r) t)

either_left : (a b r : ℕ) → T (has a r) → T (has (either a b) r)
either_left a b r t = subst T (sym (joined a b r)) (or_T_left (has a r) (has b r) t)

either_right : (a b r : ℕ) → T (has b r) → T (has (either a b) r)
either_right a b r t = subst T (sym (joined a b r)) (or_T_right (has a r) (has b r) t)

-- a set of one right
alone : (q r : ℕ) → T (has (add nothing q) r) → r ≡ q
alone q r t = elim (add_only nothing q r t) [ inl e ↦ e | inr h ↦ absurd (none_has r h) ]

-- three tests
all_three : (a b c : Bool) → T (a && b && c) → T a × T b × T c
all_three a b c t =
    let ab = T_and (a && b) c t in
    let both = T_and a b ab.0 in
    (both.0, both.1, ab.1)

three_all : (a b c : Bool) → T a → T b → T c → T (a && b && c)
three_all a b c p q r = and_T (a && b) c (and_T a b p q) r

-- the counted flags: from what they give to a flag, and back
counted_gave : (n held r : ℕ) → T (has (counted_give n held) r) → ByCounted n held r
unfolding counted_give
counted_gave zero held r t = absurd (none_has r t)
counted_gave (suc n) held r t =
    elim (either_only (counted_give n held) (flag_gives (suc n) held) r t) [
      | inl h ↦ let lower = counted_gave n held r h in (lower.0, lower.1, omega (arith, lower.2), lower.3, lower.4)
      | inr h ↦ let top = when_has (has held (suc n)) (below (suc n)) r h in (suc n, omega arith, omega arith, top.0, initial (suc n) r top.1)
    ]

counted_gets : (n held r : ℕ) → ByCounted n held r → T (has (counted_give n held) r)
unfolding counted_give
counted_gets zero held r q = absurd (omega (arith, q.1, q.2))
counted_gets (suc n) held r q =
    elim (cases_eq q.0 (suc n)) [
      | inl e ↦ either_right (counted_give n held) (flag_gives (suc n) held) r
          (has_when (has held (suc n)) (below (suc n)) r (subst (λ k. T (has held k)) e q.3) (filled (suc n) r (omega (arith, e, q.4))))
      | inr ne ↦ let lower : q.0 ≤ n = omega (arith, q.2) in
          either_left (counted_give n held) (flag_gives (suc n) held) r (counted_gets n held r (q.0, q.1, lower, q.3, q.4))
    ]

-- the unlimited flag
unlimited_gave : (n held r : ℕ) → T (has (unlimited_gives n held) r) → ByUnlimited n held r
unlimited_gave n held r t =
    let top = when_has (has held unlimited_flag) (add (below (suc n)) unlimited_flag) r t in
    elim (add_only (below (suc n)) unlimited_flag r top.1) [
      | inl e ↦ (top.0, inr e)
      | inr low ↦ (top.0, inl (omega (arith, initial (suc n) r low)))
    ]

unlimited_gets : (n held r : ℕ) → ByUnlimited n held r → T (has (unlimited_gives n held) r)
unlimited_gets n held r q =
    has_when (has held unlimited_flag) (add (below (suc n)) unlimited_flag) r q.0
    (elim q.1 [
      | inl low ↦ add_keeps (below (suc n)) unlimited_flag r (filled (suc n) r (omega arith))
      | inr e ↦ subst (λ x. T (has (add (below (suc n)) unlimited_flag) x)) (sym e) (add_has (below (suc n)) unlimited_flag)
    ])

-- all flags
flags_gave : (n held r : ℕ) → T (has (flags_give n held) r) → ByCounted n held r ⊎ ByUnlimited n held r
flags_gave n held r t =
    elim (either_only (counted_give n held) (unlimited_gives n held) r t) [
      | inl h ↦ inl (counted_gave n held r h)
      | inr h ↦ inr (unlimited_gave n held r h)
    ]

flags_get : (n held r : ℕ) → ByCounted n held r ⊎ ByUnlimited n held r → T (has (flags_give n held) r)
flags_get n held r (inl q) = either_left (counted_give n held) (unlimited_gives n held) r (counted_gets n held r q)
flags_get n held r (inr q) = either_right (counted_give n held) (unlimited_gives n held) r (unlimited_gets n held r q)

-- a flag is held where the access is passed on
flag_held : (n held : ℕ) → T (holds_flag n held) → HoldsCounted n held ⊎ T (has held unlimited_flag)
flag_held n held t =
    elim (flags_gave n held access_right t) [ inl q ↦ inl (q.0, q.1, q.2, q.3) | inr q ↦ inr q.0 ]

held_flag : (n held : ℕ) → HoldsCounted n held ⊎ T (has held unlimited_flag) → T (holds_flag n held)
held_flag n held (inl q) = flags_get n held access_right (inl (q.0, q.1, q.2, q.3, omega (arith, q.1)))
held_flag n held (inr t) = flags_get n held access_right (inr (t, inl (omega arith)))

pub meaning_stands : FlagsMean
meaning_stands = record {
  gives = λ s u v o held r t.
      let both = when_has (chosen s.givers u && chosen s.receivers v && chosen s.served o) (flags_give s.flags held) r t in
      let tests = all_three (chosen s.givers u) (chosen s.receivers v) (chosen s.served o) both.0 in
      record { giver = tests.0; receiver = tests.1; served = tests.2; flag = flags_gave s.flags held r both.1 };
  given = λ s u v o held r p.
      has_when (chosen s.givers u && chosen s.receivers v && chosen s.served o) (flags_give s.flags held) r
      (three_all (chosen s.givers u) (chosen s.receivers v) (chosen s.served o) p.giver p.receiver p.served)
      (flags_get s.flags held r p.flag);
  adds = λ s u o held r t.
      let both = when_has (s.strong && chosen s.served o && holds_flag s.flags held) (add nothing access_right) r t in
      let tests = all_three s.strong (chosen s.served o) (holds_flag s.flags held) both.0 in
      record { strong = tests.0; served = tests.1; access = alone access_right r both.1; flag = flag_held s.flags held tests.2 };
  added = λ s u o held r a.
      has_when (s.strong && chosen s.served o && holds_flag s.flags held) (add nothing access_right) r
      (three_all s.strong (chosen s.served o) (holds_flag s.flags held) a.strong a.served (held_flag s.flags held a.flag))
      (subst (λ q. T (has (add nothing access_right) q)) (sym a.access) (add_has nothing access_right));
}

-- more held rights pass on more: a flag that is held is held still
passes_more : (s : Settings) (u v o held more r : ℕ) → Within held more → PassesOn s u v o held r → PassesOn s u v o more r
passes_more s u v o held more r w p = record {
  giver = p.giver;
  receiver = p.receiver;
  served = p.served;
  flag = elim p.flag [
    | inl q ↦ inl (q.0, q.1, q.2, w q.0 q.3, q.4)
    | inr q ↦ inr (w unlimited_flag q.0, q.1)
  ];
}

adds_access_more : (s : Settings) (o held more r : ℕ) → Within held more → AddsAccess s o held r → AddsAccess s o more r
adds_access_more s o held more r w a = record {
  strong = a.strong;
  served = a.served;
  access = a.access;
  flag = elim a.flag [
    | inl q ↦ inl (q.0, q.1, q.2, w q.0 q.3)
    | inr t ↦ inr (w unlimited_flag t)
  ];
}

pub flags_lawful : (s : Settings) → Lawful (flags_meaning s)
flags_lawful s = record {
  adds_more = λ u o held more w r t.
      meaning_stands.added s u o more r (adds_access_more s o held more r w (meaning_stands.adds s u o held r t));
  gives_more = λ u v o held more w r t.
      meaning_stands.given s u v o more r (passes_more s u v o held more r w (meaning_stands.gives s u v o held r t));
}
