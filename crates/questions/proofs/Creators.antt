-- The runs that start with a create, against the run rule.
use Rattle.std.proofs.Common.{◌≡◌, ℕ, ◌<◌, ltb, List, [], ◌∷◌, length, get_or, Some, None, Option, sym, refl, ap, ◌∙◌}
use Rattle.std.proofs.lemmas.List.{get_or_read}
use Rattle.std.proofs.lemmas.Bool.{lt-ltb, cond-true}
use Rattle.rights.proofs.Found.{first_is, first_is_none}
use Rattle.books.specs.Meaning.{Meaning}
use Rattle.monitor.specs.declared.step.Step.{Step}
use Rattle.monitor.specs.declared.step.Step.TheVariants.{Create}
use Rattle.monitor.specs.States.{State, Object, type_of}
use Rattle.safety.specs.declared.question.Question.TheVariants.{CanNew}
use Rattle.safety.specs.Rule.{before, most_moves, fresh, after_create, find_new, shown}
use Rattle.questions.specs.Fields.{field_of, ahead, onward}
use Rattle.questions.proofs.Loops.{Clear}

onward_one : (x : Step) (o : Option (List Step)) → onward (x ∷ []) o ≡ before x o
onward_one x None = refl
onward_one x (Some xs) = refl

module _ (w : ℕ) (m : Meaning) (S : State) (s t r : ℕ) where
  -- the run from one creator
  abbrev pub from : ℕ → Option (List Step)
  from c = after_create w m S c s t r (m.creation (type_of S c) t)

  module _ (c own : ℕ) (types : List ℕ) (same : types ≡ S.subjects) (stands : c < length types) (is : own ≡ get_or
      types c own) where
    created_by : (made : Option ℕ) → made ≡ m.creation own t → from c ≡ after_create w m S c s t r made
    created_by made e = ap (after_create w m S c s t r) (ap (λ u. m.creation u t) (sym (get_or_read types c own
        stands is 0 ∙ ap (λ l. get_or l c 0) same)) ∙ sym e)

    pub none_from : None ≡ m.creation own t → from c ≡ None
    none_from e = created_by None e

    pub run_from : (rights o : ℕ) (x : Object) (run : List Step) (found : Option (List Step))
        → Some rights ≡ m.creation own t → o ≡ length S.objects
        → x ≡ record { type = t; cells = fresh (length S.subjects) c rights } → run ≡ Create c t ∷ []
        → found ≡ onward run (ahead w m (most_moves w) (field_of S.subjects s r o x)) → from c ≡ found
    run_from rights o x run found e count column start here =
        created_by (Some rights) e
        ∙ sym (onward_one (Create c t) (ahead w m (most_moves w) (field_of S.subjects s r (length S.objects) (record
        { type = t; cells = fresh (length S.subjects) c rights }))))
        ∙ (λ k. onward (sym start k) (ahead w m (most_moves w) (field_of S.subjects s r (sym count k) (sym column k)))) ∙ sym here

  module _ (room : length S.objects < 64) where
    with_room : shown w m S (CanNew s t r) ≡ find_new w m S s t r
    with_room = cond-true (ltb (length S.objects) 64) (find_new w m S s t r) None (lt-ltb
        (length S.objects) 64 room)

    pub found_from : (c : ℕ) (run : List Step) → c < length S.subjects → Clear from c → from c ≡ Some run
        → Some run ≡ shown w m S (CanNew s t r)
    found_from c run lc clear here = sym (with_room ∙ first_is (length S.subjects) from c run lc here clear)

    pub none_found : Clear from (length S.subjects) → None ≡ shown w m S (CanNew s t r)
    none_found clear = sym (with_room ∙ first_is_none (length S.subjects) from clear)
