-- One turn of the search: a step taken, or the end.
use Rattle.std.proofs.Common.{◌≡◌, ℕ, suc, ◌<◌, Bool, length, get_or, take, set, true, false, cond, List, [], ◌∷◌, ◌++◌, Some, None, Option, sym, refl, ap, ◌∙◌, append_assoc}
use Rattle.std.proofs.lemmas.List.{append-nil, get_or-take, get_or_read}
use Rattle.rights.specs.Sets.{add}
use Rattle.books.specs.Meaning.{Meaning}
use Rattle.monitor.specs.declared.step.Step.{Step}
use Rattle.monitor.proofs.Memory.{take_set_lt}
use Rattle.safety.specs.declared.question.Move.{Move}
use Rattle.safety.specs.Rule.{held, moved, step_for, before, find, as_steps}
use Rattle.safety.proofs.Search.{find_stops, find_ends, find_goes}
use Rattle.questions.specs.Moves.{by}
use Rattle.questions.specs.Fields.{Field, attained, next_in, moved_in, stepped, ahead, onward, if_found}

onward_onward : (xs ys : List Step) (o : Option (List Step)) → onward xs (onward ys o) ≡ onward (xs ++ ys) o
onward_onward xs ys None = refl
onward_onward xs ys (Some zs) = ap Some (sym (append_assoc xs ys zs))

before_steps : (o : ℕ) (v : Move) (found : Option (List Move))
    → as_steps o (before v found) ≡ onward (step_for o v ∷ []) (as_steps o found)
before_steps o v None = refl
before_steps o v (Some vs) = refl

-- the receiver's cell written
pub moved_by : (n : ℕ) (cells : List ℕ) (giver : Option ℕ) (d r h : ℕ) → d < n → d < length cells → h ≡ get_or cells d h
    → take n (set cells d (add (get_or cells d h) r)) ≡ moved (take n cells) (by giver d r)
moved_by n cells giver d r h ld lc is =
    take_set_lt n cells d (add (get_or cells d h) r) ld
    ∙ (λ k. set (take n cells) d (add ((sym is ∙ get_or_read cells d h lc is 0 ∙ sym (get_or-take n cells d 0 ld)) k) r))
    ∙ at giver where
      at : (o : Option ℕ) → set (take n cells) d (add (held (take n cells) d) r) ≡ moved (take n cells) (by o d r)
      at None = refl
      at (Some s) = refl

pub step_taken : (w : ℕ) (m : Meaning) (f next : Field) (x : Step) (v : Move)
    → Some v ≡ next_in w m f → next ≡ moved_in f v → x ≡ step_for f.object v → (next, Some x) ≡ stepped f (next_in w m f)
step_taken w m f next x v is after by_move = (λ k. (after k, Some (by_move k))) ∙ ap (stepped f) is

module _ (w : ℕ) (m : Meaning) (whole : Option (List Step)) (run : List Step) (f : Field) where
  ends : attained f ≡ false → ahead w m 0 f ≡ None
  unfolding find
  ends e = ap (λ b. as_steps f.object (cond b (Some []) None)) e

  -- the run is found where the holding stands
  pub found_here : (fuel : ℕ) → whole ≡ onward run (ahead w m fuel f) → attained f ≡ true → Some run ≡ whole
  found_here fuel inv e =
      ap Some (sym (append-nil run)) ∙ ap (λ o. onward run (as_steps f.object o)) (sym (find_stops w m f.types f.type
      f.subject f.right fuel f.cells e)) ∙ sym inv

  -- the last turn
  pub ended : (b : Bool) → b ≡ attained f → whole ≡ onward run (ahead w m 0 f) → if_found b run ≡ whole
  ended true e inv = found_here 0 inv (sym e)
  ended false e inv = ap (onward run) (sym (ends (sym e))) ∙ sym inv

  module _ (fuel : ℕ) (next : Field) where
    stuck : (o : Option Move) → next_in w m f ≡ o → (next, None) ≡ stepped f o
        → whole ≡ onward run (ahead w m fuel f) → attained f ≡ false → None ≡ whole
    stuck None n e inv lacks = ap (λ x. onward run (as_steps f.object x)) (sym (find_ends w m f.types f.type
        f.subject f.right fuel f.cells lacks n)) ∙ sym inv
    stuck (Some v) n e inv lacks = let z : None ≡ Some (step_for f.object v) = ap (λ p. p.1) e in cc

    goes : (x : Step) (o : Option Move) → next_in w m f ≡ o → (next, Some x) ≡ stepped f o
        → whole ≡ onward run (ahead w m (suc fuel) f) → attained f ≡ false
        → whole ≡ onward (run ++ x ∷ []) (ahead w m fuel next)
    goes x None n e inv lacks = let z : Some x ≡ None = ap (λ p. p.1) e in cc
    goes x (Some v) n e inv lacks =
        let s : Some x ≡ Some (step_for f.object v) = ap (λ p. p.1) e in
        let is : x ≡ step_for f.object v = cc in
        inv ∙ ap (λ y. onward run (as_steps f.object y)) (find_goes w m f.types f.type f.subject f.right fuel f.cells v lacks n)
        ∙ ap (onward run) (before_steps f.object v (find w m f.types f.type f.subject f.right fuel (moved_in f v).cells))
        ∙ onward_onward run (step_for f.object v ∷ []) (ahead w m fuel (moved_in f v))
        ∙ (λ k. onward (run ++ sym is k ∷ []) (ahead w m fuel (sym e k).0))

    -- no step is left
    pub none_here : (next, None) ≡ stepped f (next_in w m f) → whole ≡ onward run (ahead w m fuel f)
        → attained f ≡ false → None ≡ whole
    none_here e = stuck (next_in w m f) refl e

    -- one step more
    pub one_more : (x : Step) → (next, Some x) ≡ stepped f (next_in w m f)
        → whole ≡ onward run (ahead w m (suc fuel) f) → attained f ≡ false
        → whole ≡ onward (run ++ x ∷ []) (ahead w m fuel next)
    one_more x e = goes x (next_in w m f) refl e
