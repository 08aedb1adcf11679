-- Every answer is right.
use Rattle.std.proofs.Common.{◌≡◌, ℕ, suc, ◌+◌, ◌<◌, ◌≤◌, Bool, true, false, T, ltb, leb, List, [], ◌∷◌, ◌++◌, map, length, drop, Some, None, Ok, Option, Result, refl, ap, inl, inr, arith, leb→le, length-append, length-drop}
use lib.ListN.{length-map}
use lib.Seq.{take-append_seam, drop-append_seam}
use Rattle.std.proofs.lemmas.Grind.{common_steps}
use Rattle.rights.specs.Limits.{max_object_types, max_objects}
use Rattle.rights.specs.Refusals.{demand, settle}
use Rattle.rights.specs.declared.refusal.Refusal.{Refusal}
use Rattle.rights.specs.declared.refusal.Refusal.TheVariants.{OutOfRange, TooShort}
use Rattle.books.specs.Meaning.{Meaning, Lawful}
use Rattle.monitor.specs.declared.step.Step.{Step}
use Rattle.monitor.specs.declared.step.Step.TheVariants.{Create}
use Rattle.monitor.specs.declared.step.Done.TheVariants.{Made}
use Rattle.monitor.specs.States.{Object, State, object, type_of, WellFormed}
use Rattle.monitor.specs.Machine.{outcome, perform}
use Rattle.safety.specs.declared.question.Question.{Question}
use Rattle.safety.specs.declared.question.Question.TheVariants.{Can, CanNew}
use Rattle.safety.specs.declared.question.Call.{Call}
use Rattle.safety.specs.declared.question.Call.TheVariants.{Act, Ask}
use Rattle.safety.specs.declared.question.Reply.{Reply}
use Rattle.safety.specs.declared.question.Reply.TheVariants as reply
use Rattle.safety.specs.Runs.{after, after_calls, Attained}
use Rattle.safety.specs.Rule.{step_for, fresh, shown}
use Rattle.safety.specs.Questions.{in_range, list_places, placed, told, reply_from, asked}
use Rattle.safety.specs.Laws.{NoList, EachWorks, Shows, Judged, ListsJudged, Ruled}
use Rattle.safety.proofs.Splits.{Split}
use Rattle.safety.proofs.Steps.{with_made, object_new, objects_more, created, calls_keep, well_made, length_fresh, well_step, grows_step}
use Rattle.safety.proofs.Guard.{Guard, guard_holds}
use Rattle.safety.proofs.Reach.{reached_after, follows_reach}
use Rattle.safety.proofs.Shown.{short, Hopeless, shown_split}

-- a run works
record Works (w : ℕ) (m : Meaning) (S : State) (q : Question) (run : List Step) : Type 0 where
  works : EachWorks w m S run
  attains : Attained S q (after w m S run)
  short : length run ≤ list_places w

module _ (w : ℕ) (m : Meaning) (S : State) (wf : WellFormed S) where
  -- where the search is hopeless, no list of steps ends with the asked holding
  guard_old : (s o r : ℕ) → o < length S.objects → Hopeless w m S (Can s o r) → Guard w m s r (suc o) (λ i _. i ≡ o) S
  guard_old s o r l b = record {
    grown = l;
    born = λ c t rights lc e i li room same. absurd (omega arith);
    bounded = λ i li same. rw same (b (wf.few, wf.square o l));
  }

  guard_new : (s t r : ℕ) → Hopeless w m S (CanNew s t r) → Guard w m s r (length S.objects) (λ i u. (length S.objects ≤ i) × (u ≡ t)) S
  guard_new s t r b = record {
    grown = omega arith;
    born = λ c u rights lc made i li room new.
        rw new.1 (b c lc (omega arith) rights (rw new.1 at made) (wf.few, length_fresh (length S.subjects) c rights));
    bounded = λ i li new. absurd (omega (arith, new.0));
  }

  stands : (s o r : ℕ) → T (in_range w S (Can s o r)) → o < length S.objects
  stands s o r i = grind arith

  no_list : Lawful m → (q : Question) → T (in_range w S q) → Hopeless w m S q → NoList w m S q
  no_list law (Can s o r) i b xs h = guard_holds w m law s r S (guard_old s o r (stands s o r i) b) xs o (λ l. l) refl h
  no_list law (CanNew s t r) i b xs (o, old, l, e, h) = guard_holds w m law s r S (guard_new s t r b) xs o (λ _. l) (old, e) h

  -- a run by the rule works
  creates : (c t rights : ℕ) → c < length S.subjects → T (ltb t max_object_types) → length S.objects < max_objects
      → m.creation (type_of S c) t ≡ Some rights
      → outcome w m S (Create c t) ≡ Ok (with_made S t (fresh (length S.subjects) c rights), Made (length S.objects))
  creates c t rights lc small room e =
      rw (← created S c t rights) (grind (arith, common_steps))

  run_works : (q : Question) → T (in_range w S q) → (run : List Step) → Ruled w m S q run → Works w m S q run
  run_works (Can s o r) i run (vs, e, h) =
      let l = stands s o r i in
      let few = short w m S s r (object S o).type (object S o).cells vs (wf.few, wf.square o l) h in
      let there = follows_reach w m s r o vs S (length S.objects) (object S o).type wf l refl refl h in
      rw e (record { works = there.works; attains = there.holds; short = omega (arith, length-map vs (step_for o)) })
  run_works (CanNew s t r) i run (c, rights, vs, e, made, h, none, lc, room) =
      let small : T (ltb t max_object_types) = grind arith in
      let N = length S.objects in
      let new = fresh (length S.subjects) c rights in
      let U = with_made S t new in
      let at_new = object_new S t new in
      let more = objects_more S t new in
      let few = short w m S s r t new vs (wf.few, length_fresh (length S.subjects) c rights) h in
      let there = reached_after w m s r N (N + 1) t S (Create c t) (map (step_for N) vs) (U, Made N) (creates c t rights lc small room made) tt
      (follows_reach w m s r N vs U (N + 1) t (well_made S wf c t rights) (omega arith) more (ap (λ (x : Object). x.type) at_new)
      (rw at_new h)) in
      rw e (record {
        works = there.works;
        attains = (N, omega arith, omega (arith, there.objects), there.type, there.holds);
        short = omega (arith, length-map vs (step_for N));
      })

-- an answered can has a run
asked_can : (list : List Step) (n : ℕ) (b c : Bool) (found : Option (List Step))
    → reply_from (settle list (demand b OutOfRange (demand c TooShort (Ok (told list found))))).1 ≡ reply.Can n
    → T b × ((run : List Step) × (found ≡ Some run))
asked_can list n false c found e = cc
asked_can list n true false found e = cc
asked_can list n true true None e = cc
asked_can list n true true (Some run) e = (tt, (run, refl))

-- the steps among the calls
acts : List Call → List Step
acts [] = []
acts (Act x ∷ calls) = x ∷ acts calls
acts (Ask q ∷ calls) = acts calls

after_acts : (w : ℕ) (m : Meaning) (S : State) (calls : List Call) (xs : List Step) → after w m S (acts calls ++ xs) ≡ after w m (after_calls w m S calls) xs
unfolding acts
after_acts w m S [] xs = refl
after_acts w m S (Act x ∷ calls) xs = after_acts w m (perform w m S x).0 calls xs
after_acts w m S (Ask q ∷ calls) xs = after_acts w m S calls xs

-- what is new later is new now
earlier : (S U End : State) (q : Question) → length S.objects ≤ length U.objects → Attained U q End → Attained S q End
earlier S U End (Can s o r) l h = h
earlier S U End (CanNew s t r) l (o, new, lo, e, h) = (o, omega arith, lo, e, h)

module _ (w : ℕ) (m : Meaning) (S : State) (wf : WellFormed S) (q : Question) (list : List Step) where
  -- where no list of steps ends with the asked holding, it stays so
  stays_never : NoList w m S q → (calls : List Call) (other : List Step) (n : ℕ) → (asked w m (after_calls w m S calls) q other).1 ≡ reply.Can n → ⊥
  stays_never none calls other n e =
      let U = after_calls w m S calls in
      let wide = calls_keep w m WellFormed (well_step w m) S wf calls in
      let more = calls_keep w m (λ V. length S.objects ≤ length V.objects) (grows_step w m (length S.objects)) S (omega arith) calls in
      let (i, found) = asked_can other n (in_range w U q) (leb (list_places w) (length other)) (shown w m U q) e in
      let (run, is) = found in
      let there = run_works w m U wide q i run (rw is at (shown_split w m U q)) in
      none (acts calls ++ run) (rw (after_acts w m S calls run) (earlier S U (after w m U run) q more there.attains))

  -- a refusal, a never, and a can
  judged_refused : (e : Refusal) → Judged w m S q list list (reply.Refused e)
  judged_refused e = record {
    never_right = λ h. cc;
    never_list = λ h. refl;
    never_told = λ h none. elim h [ inl k ↦ k | inr k ↦ cc ];
    can_right = λ n h. cc;
    never_lasts = λ h. cc;
  }

  judged_never : NoList w m S q → Judged w m S q list list reply.Never
  judged_never none = record {
    never_right = λ h. none;
    never_list = λ h. refl;
    never_told = λ h no. refl;
    can_right = λ n h. cc;
    never_lasts = λ h. stays_never none;
  }

  judged_can : (run : List Step) → shown w m S q ≡ Some run → Works w m S q run → list_places w ≤ length list
      → Judged w m S q list (placed run list) (reply.Can (length run))
  judged_can run e there enough =
      let rest = drop (length run) list in
      let same = take-append_seam run rest in
      let shows : Shows w m S q list (length run) (placed run list) = record {
        count = ap length same;
        rest = drop-append_seam run rest;
        places = omega (arith, length-append run rest, length-drop (length run) list, there.short);
        ruled = rw same e;
        works = rw same there.works;
        attains = rw same there.attains;
      } in
      record {
        never_right = λ h. cc;
        never_list = λ h. cc;
        never_told = λ h none. absurd (none run there.attains);
        can_right = λ n h. let k : length run ≡ n = cc in rw (← k) shows;
        never_lasts = λ h. cc;
      }

  judged_told : Lawful m → T (in_range w S q) → list_places w ≤ length list
      → (found : Option (List Step)) → shown w m S q ≡ found → Split found (Hopeless w m S q) (Ruled w m S q)
      → Judged w m S q list (told list found).0 (told list found).1
  judged_told law i enough None e h = judged_never (no_list w m S wf law q i h)
  judged_told law i enough (Some run) e h = judged_can run e (run_works w m S wf q i run h) enough

  unless : (b : Bool) (e : Refusal) (next : Result (List Step × Reply) Refusal)
      → (T b → Judged w m S q list (settle list next).0 (reply_from (settle list next).1))
      → Judged w m S q list (settle list (demand b e next)).0 (reply_from (settle list (demand b e next)).1)
  unless true e next f = f tt
  unless false e next f = judged_refused e

pub judged : (w : ℕ) (m : Meaning) → Lawful m → (S : State) → WellFormed S → (q : Question) (list : List Step)
    → Judged w m S q list (asked w m S q list).0 (asked w m S q list).1
judged w m law S wf q list =
    unless w m S wf q list (in_range w S q) OutOfRange _ (λ i.
    unless w m S wf q list (leb (list_places w) (length list)) TooShort _ (λ enough.
    judged_told w m S wf q list law i (leb→le (list_places w) (length list) enough) (shown w m S q) refl (shown_split w m S q)))

pub lists_judged : (w : ℕ) (m : Meaning) → Lawful m → (S : State) → WellFormed S → ListsJudged w m S
lists_judged w m law S wf calls q list =
    judged w m law (after_calls w m S calls) (calls_keep w m WellFormed (well_step w m) S wf calls) q list
