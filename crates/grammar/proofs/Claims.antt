-- The theorems.
use Rattle.std.proofs.Common.{◌≡◌, ℕ, suc, ◌+◌, ◌⊎◌, List, [], ◌∷◌, ◌++◌, length, sym, refl, ap, ◌∙◌, subst, inl, inr, append_assoc, arith}
use Rattle.grammar.specs.Bytes.{class}
use Rattle.grammar.specs.Items.{Items, render}
use Rattle.grammar.specs.Reader.{State, start, reason, lists, letters, stop, step, Reading, formed, not_read, read_on, read_from, read}
use Rattle.grammar.specs.Claims.{GoodLinesRead, OnlyGoodLines, BeginsLine, lists_after, Stopped, RefusedAtFirst, AlwaysAnswers}
use Rattle.rights.specs.declared.refusal.Refusal.{Refusal}
use Rattle.grammar.proofs.Walks.{Walk, walked, StopsAt, Tells, tells}
use Rattle.grammar.proofs.Forward.{form_walk, ends}
use Rattle.grammar.proofs.Kept.{text_walk, sound_walk, lists_walk, letters_walk}

pub good_lines_read : GoodLinesRead
unfolding class
good_lines_read F rest g = walked (form_walk F g) 0 (10 ∷ rest)

pub only_good_lines : OnlyGoodLines
only_good_lines text F rest e =
    let (xs, w, parts) = subst (Tells start 0 text) e (tells start 0 text) in
    (sound_walk w tt, parts ∙ ap (λ l. l ++ (10 ∷ rest)) (sym (text_walk w)))

-- a walk from the start is over the beginning of some good line
walk_begins : {t : State} {xs : List ℕ} → Walk start xs t → BeginsLine xs
walk_begins {t} {xs} w =
    let (ys, F, v) = ends t in
    let g = sound_walk v (sound_walk w tt) in
    let whole : render F ≡ xs ++ ys = text_walk v ∙ ap (λ l. l ++ ys) (text_walk w) in
    (ys ++ (10 ∷ []), (F, g, sym (append_assoc xs ys (10 ∷ [])) ∙ ap (λ l. l ++ (10 ∷ [])) (sym whole)))

clash : (r : Reading) (F : Items) (rest : List ℕ) (n : Refusal) (k : ℕ) → r ≡ formed F rest → r ≡ not_read n k → ⊥
clash r F rest n k p q = let z : ◌≡◌ {A = ℕ} 0 1 = cc in omega arith

-- where the machine stops at a byte, no good line goes on with it
stuck_ends : {t : State} {xs : List ℕ} → Walk start xs t → (b : ℕ) → step t (class b) b ≡ stop → BeginsLine (xs ++ (b ∷ [])) → ⊥
stuck_ends {t} {xs} w b e (more, (F, g, line)) =
    let same : xs ++ (b ∷ more) ≡ render F ++ (10 ∷ []) = sym (append_assoc xs (b ∷ []) more) ∙ line in
    let n = reason (class b) (lists t) (letters t) in
    let k = 0 + length xs in
    clash (read (xs ++ (b ∷ more))) F [] n k
    (ap read same ∙ good_lines_read F [] g)
    (walked w 0 (b ∷ more) ∙ ap (λ r. read_on r n k more (λ u. read_from u (suc k) more)) e)

stops : {t : State} {xs : List ℕ} → Walk start xs t → (n : Refusal) (ys : List ℕ) → StopsAt n t ys → Stopped n xs ys
stops w n [] h = h
stops {t} {xs} w n (b ∷ ys) (e, number) = (
  stuck_ends w b e,
  number ∙ ap (λ d. reason (class b) d (letters t)) (lists_walk w) ∙ ap (λ k. reason (class b) (lists_after 0 xs) k) (letters_walk w),
)

pub refused_at_first : RefusedAtFirst
refused_at_first text n k e =
    let (xs, ys, t, w, parts, far, h) = subst (Tells start 0 text) e (tells start 0 text) in
    record {
      front = xs;
      rest = ys;
      parts = parts;
      offset = omega arith;
      begins = walk_begins w;
      stopped = stops w n ys h;
      no_line = λ F after g line. clash (read text) F after n k (ap read line ∙ good_lines_read F after g) e;
    }

answers : (r : Reading) → ((F : Items) × (rest : List ℕ) × (r ≡ formed F rest)) ⊎ ((n : Refusal) × (k : ℕ) × (r ≡ not_read n k))
answers (formed F rest) = inl (F, rest, refl)
answers (not_read n k) = inr (n, k, refl)

pub always_answers : AlwaysAnswers
always_answers text = answers (read text)
