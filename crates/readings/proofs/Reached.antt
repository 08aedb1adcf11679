-- The lines of a text, one after the other: how far a reading has come, and what the text then comes to.
use Rattle.std.proofs.Common.{◌≡◌, ℕ, suc, ◌+◌, ◌*◌, ◌<◌, ◌≤◌, cond, List, [], ◌∷◌, ◌++◌, length, drop, Ok, Err, Result, sym, refl, ap, ◌∙◌, append_assoc, append-nil, add-one, arith, length-append, length-drop}
use Rattle.std.proofs.lemmas.List.{drop_all}
use Rattle.std.proofs.lemmas.Bool.{le-leb}
use Rattle.std.specs.Result.{MatchResult}
use Rattle.rights.specs.declared.refusal.Refusal.{Refusal}
use Rattle.rights.specs.declared.refusal.Refusal.TheVariants.{TextTooLong}
use Rattle.faults.specs.declared.fault.Fault.{Fault}
use Rattle.grammar.specs.Limits.{max_text}
use Rattle.grammar.specs.Items.{Items, render, GoodForm}
use Rattle.grammar.specs.Claims.{RefusedAt}
use Rattle.grammar.specs.Texts.{Split, all_lines, line_refused, before, split, lines_of, EachGood, AllLines, LineRefused}
use Rattle.grammar.proofs.Texts.{one_split, befores, split_begins}
use Rattle.words.specs.Tree.{LineStands, LineFails}
use Rattle.words.specs.Stops.{Stop, Denial}
use Rattle.words.specs.declared.stop.Failed.TheVariants.{Memory, Because}
use Rattle.meaning.specs.Named.{Named, nothing_named}
use Rattle.readings.specs.Results.{Failure, DeclaredAs, ReadAs, denied_at, stopped_at}
use Rattle.meaning.specs.Schemes.{line_meant, in_scheme, go_on, lines_meant, split_meant, scheme_text}

-- a line has three bytes at least
line_long : (text : List ℕ) (F : Items) (end : ℕ) → LineStands text F end → 2 < end
line_long text F end L = omega (arith, L.within, simp (length-append, length-drop) at (ap length L.whole))

good_push : (Fs : List Items) (F : Items) → EachGood Fs → GoodForm F → EachGood (Fs ++ (F ∷ []))
good_push [] F h g = (g, tt)
good_push (G ∷ Fs) F h g = (h.0, good_push Fs F h.1 g)

lines_push : (Fs : List Items) (F : Items) → lines_of (Fs ++ (F ∷ [])) ≡ lines_of Fs ++ (render F ++ (10 ∷ []))
lines_push [] F = append-nil (render F ++ (10 ∷ []))
lines_push (G ∷ Fs) F = ap (λ l. (render G ++ (10 ∷ [])) ++ l) (lines_push Fs F) ∙ sym (append_assoc (render G ++ (10 ∷ [])) (lines_of Fs) (render F ++ (10 ∷ [])))

-- a value that stands in an answer whose error was changed
pub unchanged : {T E : Type 0} (D : Type 0) (r : Result T E) (y : T) (P : T → Type 0) (Q : E → Type 0) → MatchResult r P Q
    → MatchResult r (λ x. ◌≡◌ {A = Result T D} (Ok y) (Ok x)) (λ e. ⊥) → P y
unchanged D (Ok x) y P Q h m = let e : y ≡ x = cc in rw e h
unchanged D (Err e) y P Q h m = absurd m

-- and of a line that was declared
pub was_declared : (due : Result Named Refusal) (s t : Named) (r : Result (Unit {0}) Denial) → DeclaredAs due s t r
    → MatchResult r (λ x. ◌≡◌ {A = Result (Unit {0}) Failure} (Ok tt) (Ok x)) (λ e. ⊥) → due ≡ Ok t
was_declared due s t (Ok x) h m = h
was_declared due s t (Err e) h m = absurd m

-- what is split off first is meant first
abbrev Ends : Split → Type 0
Ends s = (more : List Items) × (end : Named → Result Named Fault) × ((Fs : List Items) → split_meant (befores Fs s) ≡ lines_meant nothing_named 1 (Fs ++ more) end)

befores_more : (Fs Gs : List Items) → befores Fs (all_lines Gs) ≡ all_lines (Fs ++ Gs)
befores_more [] Gs = refl
befores_more (F ∷ Fs) Gs = ap (before F) (befores_more Fs Gs)

befores_stop : (Fs Gs : List Items) (line : ℕ) (why : Refusal) (k : ℕ) → befores Fs (line_refused Gs line why k) ≡ line_refused (Fs ++ Gs) line why k
befores_stop [] Gs line why k = refl
befores_stop (F ∷ Fs) Gs line why k = ap (before F) (befores_stop Fs Gs line why k)

ends : (s : Split) → Ends s
ends (all_lines Gs) = (Gs, (λ t. Ok t), λ Fs. ap split_meant (befores_more Fs Gs))
ends (line_refused Gs line why k) = (Gs, (λ _. Err (in_scheme why line)), λ Fs. ap split_meant (befores_stop Fs Gs line why k))

-- a text that is not too long
pub not_too_long : (text : List ℕ) → length text ≤ max_text → scheme_text text ≡ split_meant (split text)
not_too_long text l = ap (λ b. cond b (split_meant (split text)) (Err (in_scheme TextTooLong 0))) (le-leb (length text) max_text l)

module _ (text : List ℕ) where
  -- the lines up to the rest are read, to the scheme s, and the next has this number
  pub record Reached (rest : List ℕ) (number : ℕ) (s : Named) : Type 0 where
    pub forms : List Items
    pub good : EachGood forms
    pub parts : text ≡ lines_of forms ++ rest
    pub next : number ≡ suc (length forms)
    pub few : 2 * length forms + length rest ≤ length text
    pub run : (more : List Items) (end : Named → Result Named Fault) → lines_meant nothing_named 1 (forms ++ more) end ≡ lines_meant s number more end

  pub reached_none : (s : Named) → s ≡ nothing_named → Reached text 1 s
  reached_none s e = record {
    forms = [];
    good = tt;
    parts = refl;
    next = refl;
    few = omega arith;
    run = λ more end. ap (λ t. lines_meant t 1 more end) (sym e);
  }

  module _ (rest : List ℕ) (number : ℕ) (s : Named) (R : Reached rest number s) where
    line_front : (end : ℕ) (F : Items) → LineStands rest F end → text ≡ lines_of (R.forms ++ (F ∷ [])) ++ drop end rest
    line_front end F L =
        R.parts ∙ ap (λ l. lines_of R.forms ++ l) (L.whole ∙ sym (append_assoc (render F) (10 ∷ []) (drop end rest)))
        ∙ sym (append_assoc (lines_of R.forms) (render F ++ (10 ∷ [])) (drop end rest)) ∙ ap (λ l. l ++ drop end rest) (sym (lines_push R.forms F))

    -- what the lines up to this one, and more, come to
    with_line : (F : Items) (more : List Items) (end : Named → Result Named Fault)
        → lines_meant nothing_named 1 ((R.forms ++ (F ∷ [])) ++ more) end ≡ go_on (line_meant s F) number (λ t. lines_meant t (suc number) more end)
    with_line F more end = ap (λ l. lines_meant nothing_named 1 l end) (append_assoc R.forms (F ∷ []) more) ∙ R.run (F ∷ more) end

    pub reached_more : (end : ℕ) (F : Items) (t : Named) → LineStands rest F end → line_meant s F ≡ Ok t → Reached (drop end rest) (number + 1) t
    reached_more end F t L e =
        let count : length (R.forms ++ (F ∷ [])) ≡ length R.forms + 1 = simp length-append in
        record {
          forms = R.forms ++ (F ∷ []);
          good = good_push R.forms F R.good L.good;
          parts = line_front end F L;
          next = omega (arith, R.next, count);
          few = simp length-drop (omega (arith, R.few, count, L.within, line_long rest F end L));
          run = λ more done. with_line F more done ∙ ap (λ r. go_on r number (λ u. lines_meant u (suc number) more done)) e
              ∙ ap (λ n. lines_meant t n more done) (sym (add-one number));
        }

    module _ (short : length text ≤ max_text) where
      pub reached_fault : (end : ℕ) (F : Items) (e : Refusal) → LineStands rest F end → line_meant s F ≡ Err e → scheme_text text ≡ Err (in_scheme e number)
      reached_fault end F e L h =
          let Fs = R.forms ++ (F ∷ []) in
          let (left, is) = split_begins Fs (drop end rest) (good_push R.forms F R.good L.good) in
          let (more, done, so) = ends left in
          not_too_long text short ∙ ap (λ l. split_meant (split l)) (line_front end F L) ∙ ap split_meant is ∙ so Fs ∙ with_line F more done
          ∙ ap (λ r. go_on r number (λ u. lines_meant u (suc number) more done)) h

      pub reached_stop : (why : Refusal) (k : ℕ) → 0 < length rest → RefusedAt rest why k → scheme_text text ≡ Err (in_scheme why number)
      reached_stop why k l h =
          let stopped : LineRefused text R.forms number why k = record { good = R.good; line = R.next; rest = rest; parts = R.parts; some = l; refusal = h } in
          not_too_long text short ∙ ap split_meant (one_split text (line_refused R.forms number why k) stopped)
          ∙ ap (λ l. lines_meant nothing_named 1 l (λ _. Err (in_scheme why number))) (sym (append-nil R.forms)) ∙ R.run [] (λ _. Err (in_scheme why number))

      pub reached_all : length rest ≤ 0 → scheme_text text ≡ Ok s
      reached_all l =
          let e : rest ≡ [] = drop_all 0 rest l in
          let all : AllLines text R.forms = record { good = R.good; whole = R.parts ∙ ap (λ r. lines_of R.forms ++ r) e ∙ append-nil (lines_of R.forms) } in
          not_too_long text short ∙ ap split_meant (one_split text (all_lines R.forms) all)
          ∙ ap (λ l. lines_meant nothing_named 1 l (λ t. Ok t)) (sym (append-nil R.forms)) ∙ R.run [] (λ t. Ok t)

      -- a line that is not read, or not declared, and what is answered for it
      pub not_read : {T : Type 0} (r : Result T Stop) (P : T → Type 0) (Q : Stop → Type 0) (f : Failure) → 0 < length rest → MatchResult r P (LineFails rest)
          → MatchResult r (λ x. ◌≡◌ {A = Result T Failure} (Err f) (Ok x)) Q
          → ((e : Stop) → Q e → f ≡ stopped_at number e) → ReadAs (scheme_text text) (Err f)
      not_read (Ok x) P Q f l h m is = absurd (cc)
      not_read (Err Memory) P Q f l h m is = rw (is _ m) tt
      not_read (Err (Because a)) P Q f l h m is = rw (is _ m) (reached_stop a.refusal a.place l h)

      pub not_declared : (end : ℕ) (F : Items) (t : Named) (r : Result (Unit {0}) Denial) (Q : Denial → Type 0) (f : Failure) → LineStands rest F end → DeclaredAs (line_meant s F) s t r
          → MatchResult r (λ x. ◌≡◌ {A = Result (Unit {0}) Failure} (Err f) (Ok x)) Q
          → ((e : Denial) → Q e → f ≡ denied_at number e) → ReadAs (scheme_text text) (Err f)
      not_declared end F t (Ok x) Q f L h m is = absurd (cc)
      not_declared end F t (Err Memory) Q f L h m is = rw (is _ m) tt
      not_declared end F t (Err (Because e)) Q f L h m is = rw (is _ m) (reached_fault end F e L h.0)
