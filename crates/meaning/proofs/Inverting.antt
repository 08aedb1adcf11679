-- What accepted lookups and declarations say.
use Rattle.std.proofs.Common.{◌≡◌, ℕ, Bool, true, false, not, ◌&&◌, ◌||◌, eqb, ltb, List, [], ◌∷◌, ◌++◌, length, is_some, Some, None, Ok, Err, Option, Result, sym, refl, ap, ◌∙◌, subst, arith}
use Rattle.std.proofs.lemmas.Bool.{not-true, or_parts}
use Rattle.rights.specs.Limits.{max_rows}
use Rattle.rights.specs.Refusals.{demand, settle}
use Rattle.rights.specs.declared.refusal.Refusal.{Refusal}
use Rattle.rights.specs.declared.refusal.Refusal.TheVariants.{Repeated, EmptyNeed, OutOfRange, LimitReached}
use Rattle.rights.proofs.Checks.{demand_ok}
use Rattle.rows.specs.Lists.{set_of, twice, all_below}
use Rattle.rows.specs.Rules.{Rule, created, more_rules}
use Rattle.rows.specs.Drafts.{Counts, Declared, receiver_declared, with_rule, rule_from}
use Rattle.grammar.specs.Words.{not_a_word}
use Rattle.entries.specs.Lookup.{place_of}
use Rattle.meaning.specs.Named.{Named, numbered}
use Rattle.meaning.specs.Declarations.{unless_wrong, new_name, by_number, owner_set, creation_added, row_added}
use Rattle.meaning.specs.Schemes.{and_then, at_place, found, all_found, quiet}
use Rattle.meaning.specs.Means.{Stands}
use Rattle.meaning.proofs.Standing.{found_stands, AllStand}
use Rattle.meaning.proofs.Booking.{Entry, rule_entry, creation_entry, mark_entry, Room, with_entry}

-- what came out accepted
pub ok_then : {A B : Type 0} (r : Result A Refusal) (more : A → Result B Refusal) (y : B) → and_then r more ≡ Ok y → (x : A) × (r ≡ Ok x) × (more x ≡ Ok y)
ok_then (Ok x) more y e = (x, refl, e)
ok_then (Err d) more y e = absurd (let z : ◌≡◌ {A = ℕ} 0 1 = cc in omega arith)

ok_quiet : {A : Type 0} (r : Result (Named × A) Refusal) (t : Named) → quiet r ≡ Ok t → (x : A) × (Ok (t, x) ≡ r)
ok_quiet (Ok done) t e = let same : done.0 ≡ t = cc in (done.1, ap (λ x. Ok (x, done.1)) (sym same))
ok_quiet (Err d) t e = absurd (let z : ◌≡◌ {A = ℕ} 0 1 = cc in omega arith)

ok_unless : {A : Type 0} (wrong : Option Refusal) (next : Result A Refusal) (x : A) → Ok x ≡ unless_wrong wrong next → Ok x ≡ next
ok_unless None next x e = e
ok_unless (Some d) next x e = absurd (let z : ◌≡◌ {A = ℕ} 0 1 = cc in omega arith)

ok_by_number : (s : Named) (d : Declared) (r : Result (Declared × Unit {0}) Refusal) (t : Named) → quiet (by_number s (settle d r)) ≡ Ok t
    → (next : Declared) × (Ok (next, tt) ≡ r) × (t ≡ record { names = s.names; book = next.book })
ok_by_number s d (Ok done) t e = (done.0, refl, cc)
ok_by_number s d (Err x) t e = absurd (let z : ◌≡◌ {A = ℕ} 0 1 = cc in omega arith)

none_some : (o : Option ℕ) → is_some o ≡ false → o ≡ None
none_some None e = refl
none_some (Some k) e = absurd (let z : ◌≡◌ {A = ℕ} 0 1 = cc in omega arith)

-- names that were looked up
pub found_at : (name : List ℕ) (names : List (List ℕ)) (k : ℕ) → found name names ≡ Ok k → Stands name names k
found_at name names k e = found_stands name names k (at (place_of name names) e) where
  at : (o : Option ℕ) → at_place o ≡ Ok k → o ≡ Some k
  at None h = absurd (let z : ◌≡◌ {A = ℕ} 0 1 = cc in omega arith)
  at (Some j) h = cc

pub all_found_at : (ns names : List (List ℕ)) (ks : List ℕ) → all_found ns names ≡ Ok ks → AllStand ns names ks
all_found_at [] names ks e = let same : [] ≡ ks = cc in subst (AllStand [] names) same tt
all_found_at (n ∷ ns) names ks e =
    let (k, here, h) = ok_then (found n names) (λ k. and_then (all_found ns names) (λ js. Ok (k ∷ js))) ks e in
    let (js, later, g) = ok_then (all_found ns names) (λ js. Ok (k ∷ js)) ks h in
    let same : k ∷ js ≡ ks = cc in
    subst (AllStand (n ∷ ns) names) same (found_at n names k here, all_found_at ns names js later)

-- the last demand, and the last two
last_met : {A : Type 0} (a : Bool) (d : Refusal) (x y : A) → Ok x ≡ demand a d (Ok y) → (a ≡ true) × (x ≡ y)
last_met a d x y h = let (met, same) = demand_ok a d (Ok y) x h in (met, cc)

both_met : {A : Type 0} (a b : Bool) (d e : Refusal) (x y : A) → Ok x ≡ demand a d (demand b e (Ok y)) → (a ≡ true) × (b ≡ true) × (x ≡ y)
both_met a b d e x y h =
    let (first, next) = demand_ok a d (demand b e (Ok y)) x h in
    let (second, same) = last_met b e x y next in
    (first, second, same)

-- a new name
pub named_ok : (name : List ℕ) (is_taken : Bool) (names : List (List ℕ)) (limit : ℕ) (with_names : List (List ℕ) → Named) (t : Named)
    → quiet (new_name name is_taken names limit with_names) ≡ Ok t → (is_taken ≡ false) × (t ≡ with_names (names ++ (name ∷ [])))
named_ok name is_taken names limit with_names t e =
    let (k, h) = ok_quiet (new_name name is_taken names limit with_names) t e in
    let (new, room, same) =
    both_met (not is_taken) (ltb (length names) limit) Repeated LimitReached (t, k) (with_names (names ++ (name ∷ [])), length names)
    (ok_unless (not_a_word name) _ (t, k) h) in
    (not-true is_taken new, ap (λ x. x.0) same)

-- declarations by number
abbrev pub Booked : Named → Entry → Named → Type 0
Booked s e t = Room s.book e × (t.names ≡ s.names) × (t.book ≡ with_entry s.book e)

booked : (s : Named) (e : Entry) (t : Named) (next : Declared) → Room s.book e → t ≡ record { names = s.names; book = next.book }
    → next.book ≡ with_entry s.book e → Booked s e t
booked s e t next room is same = (room, ap (λ x. x.names) is, ap (λ x. x.book) is ∙ same)

pub owner_ok : (s : Named) (r : ℕ) (t : Named) → quiet (owner_set s r) ≡ Ok t → Booked s (mark_entry r) t
owner_ok s r t e =
    let (next, h, is) = ok_by_number s (numbered s) _ t e in
    let (declared, new, same) = both_met _ (not (is_some s.book.mark)) _ _ (next, tt) _ h in
    booked s (mark_entry r) t next (none_some s.book.mark (not-true (is_some s.book.mark) new)) is (ap (λ x. x.0.book) same)

pub creation_ok : (s : Named) (u o : ℕ) (gets : List ℕ) (t : Named) → quiet (creation_added s u o gets) ≡ Ok t
    → Booked s (creation_entry (record { by = u; on = o; gets = set_of gets })) t
creation_ok s u o gets t e =
    let (next, h, is) = ok_by_number s (numbered s) _ t e in
    let (declared, new, same) = both_met _ (not (is_some (created u o s.book.creations) || twice gets)) _ _ (next, tt) _ h in
    let (none, once) = or_parts (is_some (created u o s.book.creations)) (twice gets) (not-true _ new) in
    booked s (creation_entry (record { by = u; on = o; gets = set_of gets })) t next
    (none_some (created u o s.book.creations) none) is (ap (λ x. x.0.book) same)

with_rule_ok : (d : Declared) (r : Result Rule Refusal) (next : Declared) → Ok (next, tt) ≡ with_rule d r
    → (rule : Rule) × (Ok rule ≡ r) × (next.book ≡ more_rules d.book rule)
with_rule_ok d (Ok rule) next h =
    let (room, same) =
    last_met (ltb (length d.book.rules) max_rows) LimitReached (next, tt) (record { counts = d.counts; book = more_rules d.book rule }, tt) h in
    (rule, refl, ap (λ x. x.0.book) same)
with_rule_ok d (Err e) next h = absurd (let z : ◌≡◌ {A = ℕ} 0 1 = cc in omega arith)

rule_ok : (n : Counts) (u : ℕ) (receiver : Option ℕ) (o : ℕ) (need gives : List ℕ) (rule : Rule) → Ok rule ≡ rule_from n u receiver o need gives
    → rule ≡ record { by = u; receiver = receiver; on = o; need = set_of need; gives = set_of gives }
rule_ok n u receiver o need gives rule h =
    let types = ltb u n.subject_types && receiver_declared n receiver && ltb o n.object_types in
    let (declared, f) = demand_ok (types && all_below n.rights need && all_below n.rights gives) OutOfRange _ rule h in
    (both_met (not (twice need || twice gives)) (not (eqb (length need) 0)) Repeated EmptyNeed rule
    (record { by = u; receiver = receiver; on = o; need = set_of need; gives = set_of gives }) f).2

pub row_ok : (s : Named) (u : ℕ) (receiver : Option ℕ) (o : ℕ) (need gives : List ℕ) (t : Named) → quiet (row_added s u receiver o need gives) ≡ Ok t
    → Booked s (rule_entry (record { by = u; receiver = receiver; on = o; need = set_of need; gives = set_of gives })) t
row_ok s u receiver o need gives t e =
    let rule : Rule = record { by = u; receiver = receiver; on = o; need = set_of need; gives = set_of gives } in
    let (next, h, is) = ok_by_number s (numbered s) (with_rule (numbered s) (rule_from (numbered s).counts u receiver o need gives)) t e in
    let (its_rule, g, book) = with_rule_ok (numbered s) (rule_from (numbered s).counts u receiver o need gives) next h in
    let same = rule_ok (numbered s).counts u receiver o need gives its_rule g in
    booked s (rule_entry rule) t next tt is (book ∙ ap (more_rules s.book) same)
