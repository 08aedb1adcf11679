-- What an accepted line did: to the names, and to the book.
use Rattle.std.proofs.Common.{◌≡◌, ℕ, Bool, false, List, [], ◌∷◌, ◌++◌, Some, None, Ok, Option, refl, ap}
use Rattle.rights.specs.Limits.{max_rights, max_subject_types, max_object_types}
use Rattle.rows.specs.Lists.{set_of}
use Rattle.rows.specs.Rules.{Rule, CreationRule, Book}
use Rattle.meaning.specs.Named.{Names, Named}
use Rattle.meaning.specs.Declarations.{taken, new_name, row_added, type_taken}
use Rattle.meaning.specs.Forms.{Form, right, subject_type, object_type, owner, create, itrans, grant, note}
use Rattle.meaning.specs.Schemes.{and_then, found, all_found, quiet, meant}
use Rattle.meaning.specs.Means.{Stands, Apart}
use Rattle.meaning.proofs.Standing.{not_taken, no_type_taken, AllStand, SetStands, set_stands}
use Rattle.meaning.proofs.Booking.{rule_entry, creation_entry, mark_entry, row, ReceiverStands, Row_is, CreationIs, row_there, There, Line, asks_nothing, asks}
use Rattle.meaning.proofs.Naming.{with_rights, with_subject_types, with_object_types, NamesStep, Later}
use Rattle.meaning.proofs.Inverting.{ok_then, found_at, all_found_at, named_ok, owner_ok, creation_ok, row_ok}

-- what it did to the book, under any later names
abbrev ItsLine : Named → Form → Named → Type 0
ItsLine s f t = (names : Names) → Later s.names names → Apart names.rights → Line names f s.book t.book

pub record Accepted (s : Named) (f : Form) (t : Named) : Type 0 where
  pub its_names : NamesStep s.names f t.names
  pub its_line : ItsLine s f t

-- a line that only declares a name, or nothing
names_only : (s : Named) (f : Form) (t : Named) → NamesStep s.names f t.names → t.book ≡ s.book
    → ((names : Names) (b : Book) → There names b f) → Accepted s f t
names_only s f t step same there = record { its_names = step; its_line = λ names later apart. asks_nothing (there names) same }

-- the numbers of a list of rights stand under later names too
all_later : {a b : Names} → Later a b → (ns : List (List ℕ)) (ks : List ℕ) → AllStand ns a.rights ks → AllStand ns b.rights ks
all_later later [] [] all = tt
all_later later [] (k ∷ ks) all = absurd all
all_later later (n ∷ ns) [] all = absurd all
all_later later (n ∷ ns) (k ∷ ks) (here, all) = (later.rights here, all_later later ns ks all)

set_later : {a b : Names} → Later a b → Apart b.rights → (ns : List (List ℕ)) (ks : List ℕ) → all_found ns a.rights ≡ Ok ks
    → SetStands ns b.rights (set_of ks)
set_later {a} {b} later apart ns ks e = set_stands ns b.rights ks apart (all_later later ns ks (all_found_at ns a.rights ks e))

receiver_later : {a b : Names} → Later a b → (to : Option (List ℕ)) (receiver : Option ℕ)
    → ReceiverStands to a.subject_types receiver → ReceiverStands to b.subject_types receiver
receiver_later later None None h = tt
receiver_later later None (Some k) h = absurd h
receiver_later later (Some v) None h = absurd h
receiver_later later (Some v) (Some k) h = later.subject_types h

-- a row with or without a receiver, once its subject types are looked up
row_line : (s t : Named) (u : List ℕ) (to : Option (List ℕ)) (o : List ℕ) (need gives : List (List ℕ)) (by : ℕ) (receiver : Option ℕ)
    → Stands u s.names.subject_types by → ReceiverStands to s.names.subject_types receiver
    → and_then (found o s.names.object_types) (λ on.
    and_then (all_found need s.names.rights) (λ ns.
    and_then (all_found gives s.names.rights) (λ gs. quiet (row_added s by receiver on ns gs)))) ≡ Ok t
    → (t.names ≡ s.names) × ItsLine s (row u to o need gives) t
row_line s t u to o need gives by receiver p q e =
    let (on, r, k) = ok_then (found o s.names.object_types) _ t e in
    let (ns, n, l) = ok_then (all_found need s.names.rights) _ t k in
    let (gs, g, m) = ok_then (all_found gives s.names.rights) _ t l in
    let (room, same, book) = row_ok s by receiver on ns gs t m in
    let rule : Rule = record { by = by; receiver = receiver; on = on; need = set_of ns; gives = set_of gs } in (
      same,
      λ names later apart.
          let is : Row_is names u to o need gives rule = record {
            its_by = later.subject_types p;
            its_receiver = receiver_later later to receiver q;
            its_on = later.object_types (found_at o s.names.object_types on r);
            its_need = set_later later apart need ns n;
            its_gives = set_later later apart gives gs g;
          } in
          asks (rule_entry rule) room (u, to, o, need, gives, refl, is) (λ c h. (row_there names c u to o need gives).1 (rule, h, is)) book,
    )

-- a line that declares a name
name_line : (s t : Named) (f : Form) (name : List ℕ) (is_taken : Bool) (names : List (List ℕ)) (limit : ℕ) (with_names : List (List ℕ) → Names)
    → quiet (new_name name is_taken names limit (λ more. record { names = with_names more; book = s.book })) ≡ Ok t
    → (is_taken ≡ false → t.names ≡ with_names (names ++ (name ∷ [])) → NamesStep s.names f t.names)
    → ((names : Names) (b : Book) → There names b f) → Accepted s f t
name_line s t f name is_taken names limit with_names e step there =
    let (new, is) = named_ok name is_taken names limit (λ more. record { names = with_names more; book = s.book }) t e in
    names_only s f t (step new (ap (λ x. x.names) is)) (ap (λ x. x.book) is) there

pub accepted : (s : Named) (f : Form) (t : Named) → meant s f ≡ Ok t → Accepted s f t
accepted s (right n) t e =
    name_line s t (right n) n (taken n s.names.rights) s.names.rights max_rights (with_rights s.names) e
    (λ new is. (not_taken n s.names.rights new, is)) (λ names b. tt)
accepted s (subject_type n) t e =
    name_line s t (subject_type n) n (type_taken s n) s.names.subject_types max_subject_types (with_subject_types s.names) e
    (λ new is. (no_type_taken n s.names.subject_types s.names.object_types new, is)) (λ names b. tt)
accepted s (object_type n) t e =
    name_line s t (object_type n) n (type_taken s n) s.names.object_types max_object_types (with_object_types s.names) e
    (λ new is. (no_type_taken n s.names.subject_types s.names.object_types new, is)) (λ names b. tt)
accepted s (owner n) t e =
    let (r, p, h) = ok_then (found n s.names.rights) _ t e in
    let (room, same, book) = owner_ok s r t h in
    record {
      its_names = same;
      its_line = λ names later apart.
          let stands = later.rights (found_at n s.names.rights r p) in
          asks (mark_entry r) room (n, refl, stands) (λ c h. (r, h, stands)) book;
    }
accepted s (create u o gets) t e =
    let (by, p, h) = ok_then (found u s.names.subject_types) _ t e in
    let (on, q, g) = ok_then (found o s.names.object_types) _ t h in
    let (rs, l, f) = ok_then (all_found gets s.names.rights) _ t g in
    let (room, same, book) = creation_ok s by on rs t f in
    let creation : CreationRule = record { by = by; on = on; gets = set_of rs } in
    record {
      its_names = same;
      its_line = λ names later apart.
          let is : CreationIs names u o gets creation = record {
            its_by = later.subject_types (found_at u s.names.subject_types by p);
            its_on = later.object_types (found_at o s.names.object_types on q);
            its_gets = set_later later apart gets rs l;
          } in
          asks (creation_entry creation) room (u, o, gets, refl, is) (λ c h. (creation, h, is)) book;
    }
accepted s (itrans u o need gives) t e =
    let (by, p, h) = ok_then (found u s.names.subject_types) _ t e in
    let (same, line) = row_line s t u None o need gives by None (found_at u s.names.subject_types by p) tt h in
    record { its_names = same; its_line = line }
accepted s (grant u v o need gives) t e =
    let (by, p, h) = ok_then (found u s.names.subject_types) _ t e in
    let (to, q, k) = ok_then (found v s.names.subject_types) _ t h in
    let (same, line) =
    row_line s t u (Some v) o need gives by (Some to) (found_at u s.names.subject_types by p) (found_at v s.names.subject_types to q) k in
    record { its_names = same; its_line = line }
accepted s note t e = let same : t ≡ s = cc in names_only s note t (ap (λ x. x.names) same) (ap (λ x. x.book) same) (λ names b. tt)
