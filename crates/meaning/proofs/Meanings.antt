-- The book that accepted lines come to means those lines.
use Rattle.std.proofs.Common.{◌≡◌, ℕ, Bool, true, false, cond, T, leb, List, ◌++◌, length, get_or, Some, None, Ok, Err, Option, sym, refl, ap, ◌∙◌, subst, inl, inr, arith}
use Rattle.rights.specs.Sets.{has}
use Rattle.rights.specs.declared.refusal.Refusal.TheVariants.{TextTooLong}
use Rattle.rights.proofs.SetLaws.{set_laws}
use Rattle.rows.specs.Rules.{Book, empty_book, gathered, created, no_rule, Gives}
use Rattle.rows.specs.Gathering.{given_shown, given_found}
use Rattle.grammar.specs.Limits.{max_text}
use Rattle.grammar.specs.Texts.{Split, all_lines, line_refused, split, Tells}
use Rattle.grammar.proofs.Texts.{texts_split}
use Rattle.meaning.specs.Named.{Names, Named, nothing_named}
use Rattle.meaning.specs.Forms.{Form, owner, create}
use Rattle.meaning.specs.Schemes.{in_scheme, split_meant}
use Rattle.meaning.specs.Means.{Exactly, In, Stands, Apart, NamesOne, Added, Given, Created, Owned, SchemeMeans, TextsMean}
use Rattle.meaning.proofs.Standing.{in_at, place_in, differ_apart, apart_front, apart_back, SetStands}
use Rattle.meaning.proofs.Booking.{rule_entry, creation_entry, mark_entry, row, ReceiverStands, row_there, Lines, only_asked, all_there}
use Rattle.meaning.proofs.Creating.{created_in, each_found}
use Rattle.meaning.proofs.Running.{run_differs, run_grown, run_lines, lines_run, never_refused}

-- Sets that have what one list of names stands at are one set.
same_truth : (a b : Bool) → (T a → T b) → (T b → T a) → a ≡ b
same_truth true true f g = refl
same_truth true false f g = absurd (f tt)
same_truth false true f g = absurd (g tt)
same_truth false false f g = refl

same_set : (listed names : List (List ℕ)) (a b : ℕ) → SetStands listed names a → SetStands listed names b → a ≡ b
same_set listed names a b p q = set_laws.same a b (λ r. same_truth (has a r) (has b r) (λ t. (q r).1 ((p r).0 t)) (λ t. (p r).1 ((q r).0 t)))

same_receiver : (names : List (List ℕ)) → Apart names → (to : Option (List ℕ)) (a b : Option ℕ)
    → ReceiverStands to names a → ReceiverStands to names b → a ≡ b
same_receiver names apart None None None p q = refl
same_receiver names apart None None (Some j) p q = absurd q
same_receiver names apart None (Some i) b p q = absurd p
same_receiver names apart (Some v) None b p q = absurd p
same_receiver names apart (Some v) (Some i) None p q = absurd q
same_receiver names apart (Some v) (Some i) (Some j) p q = ap Some (apart v i j p q)

-- an itrans or grant line for these types whose need lies within held and whose gives has r
abbrev Allowed : List Form → Names → ℕ → Option ℕ → ℕ → ℕ → ℕ → Type 0
Allowed forms names u receiver o held r =
    (subject : List ℕ) × (to : Option (List ℕ)) × (object : List ℕ) × (need : List (List ℕ)) × (gives : List (List ℕ))
    × In (row subject to object need gives) forms × Stands subject names.subject_types u
    × ReceiverStands to names.subject_types receiver × Stands object names.object_types o
    × ((q : ℕ) → NamesOne need names.rights q → T (has held q)) × NamesOne gives names.rights r

module _ (forms : List Form) (names : Names) (b : Book) (lines : Lines names forms empty_book b)
    (rights : Apart names.rights) (subjects : Apart names.subject_types) (objects : Apart names.object_types) where
  module _ (u : ℕ) (receiver : Option ℕ) (o held r : ℕ) where
    allowed : T (has (gathered u receiver o held b.rules) r) → Allowed forms names u receiver o held r
    allowed t =
        let (k, l, g) = given_shown u receiver o held r b.rules t in
        elim (only_asked names lines (rule_entry (get_or b.rules k no_rule)) (in_at b.rules k no_rule l)) [
          | inl none ↦ absurd none
          | inr from ↦ let (f, i, (subject, to, object, need, gives, e, is)) = from in (
            subject,
            to,
            object,
            need,
            gives,
            subst (λ x. In x forms) e i,
            subst (Stands subject names.subject_types) g.its_by is.its_by,
            subst (ReceiverStands to names.subject_types) g.its_receiver is.its_receiver,
            subst (Stands object names.object_types) g.its_on is.its_on,
            λ q one. g.its_need q ((is.its_need q).1 one),
            (is.its_gives r).0 g.its_gift,
          )
        ]

    allows : Allowed forms names u receiver o held r → T (has (gathered u receiver o held b.rules) r)
    allows (subject, to, object, need, gives, i, by, at, on, held_All, one) =
        let (rule, there, is) = (row_there names b subject to object need gives).0 (all_there names lines (row subject to object need gives) i) in
        let (k, l, here) = place_in rule no_rule b.rules there in
        let given : Gives u receiver o held r rule = record {
          its_by = subjects subject rule.by u is.its_by by;
          its_receiver = same_receiver names.subject_types subjects to rule.receiver receiver is.its_receiver at;
          its_on = objects object rule.on o is.its_on on;
          its_need = λ q h. held_All q ((is.its_need q).0 h);
          its_gift = (is.its_gives r).1 one;
        } in
        given_found u receiver o held r b.rules k l (subst (Gives u receiver o held r) (sym here) given)

  added : (u o held r : ℕ) → Allowed forms names u None o held r → Added forms names u o held r
  added u o held r (subject, None, object, need, gives, i, by, at, on, held_All, one) =
      record { subject = subject; object = object; need = need; gives = gives; line = i; by = by; on = on; need_held = held_All; has_right = one }
  added u o held r (subject, Some v, object, need, gives, i, by, at, on, held_All, one) = absurd at

  given : (u v o held r : ℕ) → Allowed forms names u (Some v) o held r → Given forms names u v o held r
  given u v o held r (subject, None, object, need, gives, i, by, at, on, held_All, one) = absurd at
  given u v o held r (subject, Some to, object, need, gives, i, by, at, on, held_All, one) =
      record {
        giver = subject;
        receiver = to;
        object = object;
        need = need;
        gives = gives;
        line = i;
        by = by;
        to = at;
        on = on;
        need_held = held_All;
        has_right = one;
      }

  pub adds : (u o held r : ℕ) → Exactly (T (has (gathered u None o held b.rules) r)) (Added forms names u o held r)
  adds u o held r = (
    λ t. added u o held r (allowed u None o held r t),
    λ a. allows u None o held r (a.subject, None, a.object, a.need, a.gives, a.line, a.by, tt, a.on, a.need_held, a.has_right),
  )

  pub gives_all : (u v o held r : ℕ) → Exactly (T (has (gathered u (Some v) o held b.rules) r)) (Given forms names u v o held r)
  gives_all u v o held r = (
    λ t. given u v o held r (allowed u (Some v) o held r t),
    λ a. allows u (Some v) o held r (a.giver, Some a.receiver, a.object, a.need, a.gives, a.line, a.by, a.to, a.on, a.need_held, a.has_right),
  )

  pub creates : (u o set : ℕ) → Exactly (created u o b.creations ≡ Some set) (Created forms names u o set)
  creates u o set = (there, back) where
    there : created u o b.creations ≡ Some set → Created forms names u o set
    there e =
        let (c, i, by, on, gets) = created_in u o b.creations set e in
        elim (only_asked names lines (creation_entry c) i) [
          | inl none ↦ absurd none
          | inr from ↦ let (f, j, (creator, object, listed, is, at)) = from in record {
            creator = creator;
            object = object;
            gets = listed;
            line = subst (λ x. In x forms) is j;
            by = subst (Stands creator names.subject_types) by at.its_by;
            on = subst (Stands object names.object_types) on at.its_on;
            the_set = subst (SetStands listed names.rights) gets at.its_gets;
          }
        ]

    back : Created forms names u o set → created u o b.creations ≡ Some set
    back a =
        let (c, i, at) = all_there names lines (create a.creator a.object a.gets) a.line in
        let by : c.by ≡ u = subjects a.creator c.by u at.its_by a.by in
        let on : c.on ≡ o = objects a.object c.on o at.its_on a.on in
        let gets : c.gets ≡ set = same_set a.gets names.rights c.gets set at.its_gets a.the_set in
        ap (λ x. created x o b.creations) (sym by) ∙ ap (λ x. created c.by x b.creations) (sym on)
        ∙ each_found names lines (λ d j. absurd j) c i ∙ ap Some gets

  pub owns : (r : ℕ) → Exactly (b.mark ≡ Some r) (Owned forms names r)
  owns r = (there, back) where
    there : b.mark ≡ Some r → Owned forms names r
    there e =
        elim (only_asked names lines (mark_entry r) e) [
          | inl none ↦ absurd (let z : ◌≡◌ {A = ℕ} 0 1 = cc in omega arith)
          | inr from ↦ let (f, i, (n, is, at)) = from in (n, subst (λ x. In x forms) is i, at)
        ]

    back : Owned forms names r → b.mark ≡ Some r
    back (n, i, at) = let (q, e, here) = all_there names lines (owner n) i in e ∙ ap Some (rights n q r here at)

split_means : (text : List ℕ) (s : Named) (p : Split) → Tells text p → split_meant p ≡ Ok s → SchemeMeans text s
split_means text s (line_refused Fs line why k) tells e = absurd (never_refused nothing_named 1 Fs (in_scheme why line) s e)
split_means text s (all_lines Fs) tells e =
    let (fs, written, run) = lines_run nothing_named 1 Fs s e in
    let (rights, types) = run_differs run (tt, tt) in
    let (grown_rights, grown_subjects, grown_objects) = run_grown run in
    let rights_apart = differ_apart s.names.rights rights in
    let types_apart = differ_apart (s.names.subject_types ++ s.names.object_types) types in
    let subjects = apart_front s.names.subject_types s.names.object_types types_apart in
    let objects = apart_back s.names.subject_types s.names.object_types types_apart in
    let lines = run_lines run rights_apart in
    record {
      lines = Fs;
      forms = fs;
      whole = tells;
      written = written;
      rights = grown_rights;
      subject_types = grown_subjects;
      object_types = grown_objects;
      rights_apart = rights_apart;
      types_apart = types_apart;
      adds = adds fs s.names s.book lines rights_apart subjects objects;
      gives = gives_all fs s.names s.book lines rights_apart subjects objects;
      creates = creates fs s.names s.book lines rights_apart subjects objects;
      owns = owns fs s.names s.book lines rights_apart subjects objects;
    }

pub texts_mean : TextsMean
texts_mean text s e = split_means text s (split text) (texts_split text) (short (leb (length text) max_text) e) where
  short : (t : Bool) → cond t (split_meant (split text)) (Err (in_scheme TextTooLong 0)) ≡ Ok s → split_meant (split text) ≡ Ok s
  short true h = h
  short false h = absurd (let z : ◌≡◌ {A = ℕ} 0 1 = cc in omega arith)
