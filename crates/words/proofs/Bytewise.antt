-- One byte of a text, at a place of it: the reading goes on, or stops.
use Rattle.std.proofs.Common.{◌≡◌, ℕ, suc, ◌+◌, ◌-◌, ◌<◌, ◌≤◌, List, [], ◌∷◌, ◌++◌, length, get_or, take, drop, sym, refl, ap, inl, inr, ◌∙◌, add-one, arith, length-drop, length-take, get_or-drop, drop-cons, true, false, zero, subst}
use Rattle.std.specs.List.{prefix_len}
use Rattle.std.proofs.lemmas.List.{get_or-take}
use Rattle.std.proofs.lemmas.List.Sums.{prefix_len-le-length, prefix_len_passes, prefix_len_stops}
use Rattle.words.specs.Names.{is_word_class, is_letter}
use Rattle.std.proofs.lemmas.List.{drop_all, take_all, take_more}
use Rattle.std.proofs.lemmas.Bool.{lt-ltb, le-ltb, cases_lt}
use Rattle.grammar.specs.Bytes.{Class, word_byte, opening, closing, space, line_end, bad, class}
use Rattle.grammar.specs.Items.{Items}
use Rattle.grammar.specs.Reader.{State, word_begun, reason, lists, letters, go, stop, step, not_read, read_on, read_from}
use Rattle.rights.specs.declared.refusal.Refusal.TheVariants.{LineBroken, WordTooLong}
use Rattle.words.specs.Stops.{stopped}
use Rattle.words.specs.Tree.{part, reading, WordEnds, WordRefused}

pub letter_class : (c : Class) → is_word_class c ≡ true → c ≡ word_byte
letter_class word_byte e = refl
letter_class opening e = cc
letter_class closing e = cc
letter_class space e = cc
letter_class line_end e = cc
letter_class bad e = cc

pub other_class : (c : Class) → is_word_class c ≡ false → c ≡ word_byte → ⊥
other_class word_byte e k = cc
other_class opening e k = cc
other_class closing e k = cc
other_class space e k = cc
other_class line_end e k = cc
other_class bad e k = cc

module _ (text : List ℕ) where
  abbrev pub byte : ℕ → ℕ
  byte at = get_or text at 0

  pub at_byte : (s : State) (at : ℕ) → at < length text
      → reading text s at ≡ read_on (step s (class (byte at)) (byte at)) (reason (class (byte at)) (lists s) (letters s)) at (drop (at + 1) text) (λ t. reading text t (at + 1))
  at_byte s at h = rw (drop-cons text at 0 h, add-one)

  -- the reading goes on
  pub on_byte : (s t : State) (at : ℕ) → at < length text → step s (class (byte at)) (byte at) ≡ go t → reading text s at ≡ reading text t (at + 1)
  on_byte s t at h e =
      at_byte s at h
      ∙ ap (λ r. read_on r (reason (class (byte at)) (lists s) (letters s)) at (drop (at + 1) text) (λ u. reading text u (at + 1))) e

  -- by a byte of a known class
  pub on_class : (s t : State) (at : ℕ) (c : Class) → at < length text → class (byte at) ≡ c → step s c (byte at) ≡ go t → reading text s at ≡ reading text t (at + 1)
  on_class s t at c h k e = on_byte s t at h (ap (λ x. step s x (byte at)) k ∙ e)

  -- the reading stops
  pub stop_byte : (s : State) (at : ℕ) → at < length text → step s (class (byte at)) (byte at) ≡ stop
      → reading text s at ≡ not_read (reason (class (byte at)) (lists s) (letters s)) at
  stop_byte s at h e =
      at_byte s at h
      ∙ ap (λ r. read_on r (reason (class (byte at)) (lists s) (letters s)) at (drop (at + 1) text) (λ u. reading text u (at + 1))) e

  pub stop_class : (s : State) (at : ℕ) (c : Class) → at < length text → class (byte at) ≡ c → step s c (byte at) ≡ stop
      → reading text s at ≡ not_read (reason c (lists s) (letters s)) at
  stop_class s at c h k e =
      stop_byte s at h (ap (λ x. step s x (byte at)) k ∙ e) ∙ ap (λ x. not_read (reason x (lists s) (letters s)) at) k

  -- the text ends
  pub stop_end : (s : State) (at : ℕ) → length text ≤ at → reading text s at ≡ not_read LineBroken at
  stop_end s at h = ap (read_from s at) (drop_all at text h)

  -- words
  pub part_long : (at end : ℕ) → end ≤ length text → length (part text at end) ≡ end - at
  part_long at end h = simp (length-take, length-drop) (omega arith)

  pub part_more : (at end : ℕ) → at ≤ end → end < length text → part text at (end + 1) ≡ part text at end ++ (byte end ∷ [])
  part_more at end l h =
      let here : end - at < length (drop at text) = simp length-drop (omega arith) in
      let one : (end + 1) - at ≡ (end - at) + 1 = omega arith in
      let sum : at + (end - at) ≡ end = omega arith in
      ap (λ n. take n (drop at text)) one ∙ take_more (drop at text) (end - at) 0 here
      ∙ ap (λ x. take (end - at) (drop at text) ++ (x ∷ [])) (get_or-drop at text (end - at) 0 ∙ ap byte sum)

  pub part_one : (at : ℕ) → at < length text → byte at ∷ [] ≡ part text at (at + 1)
  part_one at h =
      let none : at - at ≡ 0 = omega arith in
      sym (part_more at at (omega arith) h ∙ ap (λ n. take n (drop at text) ++ (byte at ∷ [])) none)

  abbrev pub WordLeads : ℕ → ℕ → Type 0
  WordLeads at end =
      (xs : Items) (os : List Items) → reading text (word_begun xs os (byte at ∷ [])) (at + 1) ≡ reading text (word_begun xs os (part text at end)) end

  pub word_leads_one : (at : ℕ) → at < length text → WordLeads at (at + 1)
  word_leads_one at h xs os = ap (λ w. reading text (word_begun xs os w) (at + 1)) (part_one at h)

  extends : (xs : Items) (os : List Items) (w : List ℕ) (b : ℕ) → length w < 24 → step (word_begun xs os w) word_byte b ≡ go (word_begun xs os (w ++ (b ∷ [])))
  extends xs os w b h = rw (lt-ltb (length w) 24 h)

  full : (xs : Items) (os : List Items) (w : List ℕ) (b : ℕ) → length w ≡ 24 → step (word_begun xs os w) word_byte b ≡ stop
  full xs os w b h = let k : 24 ≤ length w = omega arith in rw (le-ltb (length w) 24 k)

  pub word_leads_more : (at end : ℕ) → at < end → end < at + 24 → end < length text → class (byte end) ≡ word_byte → WordLeads at end → WordLeads at (end + 1)
  word_leads_more at end l r h k leads xs os =
      let short : length (part text at end) < 24 = omega (arith, part_long at end (omega arith)) in
      leads xs os
      ∙ on_class (word_begun xs os (part text at end)) (word_begun xs os (part text at end ++ (byte end ∷ []))) end word_byte h k (extends xs os (part text at end) (byte end) short)
      ∙ ap (λ w. reading text (word_begun xs os w) (end + 1)) (sym (part_more at end (omega arith) h))

  pub word_too_long : (at end : ℕ) → end ≡ at + 24 → end < length text → class (byte end) ≡ word_byte → WordLeads at end
      → (xs : Items) (os : List Items) → reading text (word_begun xs os (byte at ∷ [])) (at + 1) ≡ not_read WordTooLong end
  word_too_long at end e h k leads xs os =
      let long : length (part text at end) ≡ 24 = part_long at end (omega arith) ∙ omega arith in
      leads xs os
      ∙ stop_class (word_begun xs os (part text at end)) end word_byte h k (full xs os (part text at end) (byte end) long)
      ∙ ap (λ n. not_read (reason word_byte (suc (length os)) n) end) long

  -- the bytes of a word from a place on, up to 25
  abbrev run : ℕ → ℕ
  run at = prefix_len is_letter (take 25 (drop at text))

  run_within : (at : ℕ) → at ≤ length text → (run at ≤ 25) × (at + run at ≤ length text)
  run_within at h =
      let most = prefix_len-le-length is_letter (take 25 (drop at text)) in
      let long : length (take 25 (drop at text)) ≤ 25 = simp (length-take, length-drop) (omega arith) in
      let short : at + length (take 25 (drop at text)) ≤ length text = simp (length-take, length-drop) (omega arith) in
      (omega arith, omega arith)

  in_run : (at k : ℕ) → k < 25 → get_or (take 25 (drop at text)) k 0 ≡ byte (at + k)
  in_run at k h = get_or-take 25 (drop at text) k 0 h ∙ get_or-drop at text k 0

  run_passes : (at k : ℕ) → at ≤ length text → k < run at → class (byte (at + k)) ≡ word_byte
  run_passes at k h less =
      let most = run_within at h in
      letter_class (class (byte (at + k))) (ap is_letter (sym (in_run at k (omega arith))) ∙ prefix_len_passes is_letter (take 25 (drop at text)) k 0 less)

  run_stops : (at : ℕ) → at ≤ length text → run at < 25 → at + run at < length text → class (byte (at + run at)) ≡ word_byte → ⊥
  run_stops at h less more =
      let long : run at < length (take 25 (drop at text)) = simp (length-take, length-drop) (omega arith) in
      other_class (class (byte (at + run at))) (ap is_letter (sym (in_run at (run at) less)) ∙ prefix_len_stops is_letter (take 25 (drop at text)) 0 long)

  run_some : (at : ℕ) → at < length text → class (byte at) ≡ word_byte → run at ≡ 0 → ⊥
  run_some at h k none =
      let here : at + run at ≡ at = omega arith in
      run_stops at (omega arith) (omega arith) (omega arith) (ap (λ p. class (byte p)) here ∙ k)

  run_leads : (at n : ℕ) → n < 24 → n < run at → at < length text → WordLeads at (at + (n + 1))
  run_leads at zero short less h = word_leads_one at h
  run_leads at (suc n) short less h =
      let most = run_within at (omega arith) in
      let next : at + suc n ≡ at + (n + 1) = omega arith in
      let later : at + (n + 1) + 1 ≡ at + (suc n + 1) = omega arith in
      let is = ap (λ p. class (byte p)) (sym next) ∙ run_passes at (suc n) (omega arith) less in
      subst (WordLeads at) later
      (word_leads_more at (at + (n + 1)) (omega arith) (omega arith) (omega arith) is (run_leads at n (omega arith) (omega arith) h))

  -- what is counted from the place on
  abbrev pub counted : ℕ → ℕ
  counted at = prefix_len is_letter (take 25 (part text at (length text)))

  run_counted : (at n : ℕ) → n ≡ counted at → n ≡ run at
  run_counted at n e =
      e ∙ ap (λ l. prefix_len is_letter (take 25 l)) (take_all (length text - at) (drop at text) (simp length-drop (omega arith)))

  some_there : (at n : ℕ) → n ≡ run at → at < length text → class (byte at) ≡ word_byte → 0 < n
  some_there at n e h k = elim (cases_lt 0 n) [
    | inl some ↦ some
    | inr none ↦ absurd (run_some at h k (omega arith))
  ]

  pub word_ends : (at n : ℕ) → n ≡ counted at → n ≤ 24 → at < length text → class (byte at) ≡ word_byte → WordEnds text at (at + n)
  word_ends at n c short h k =
      let e = run_counted at n c in
      let most = run_within at (omega arith) in
      let some : 0 < n = some_there at n e h k in
      let end : at + (n - 1 + 1) ≡ at + n = omega arith in
      let same : at + run at ≡ at + n = omega arith in
      record {
        later = omega arith;
        within = omega arith;
        leads = subst (WordLeads at) end (run_leads at (n - 1) (omega arith) (omega arith) h);
        settled = λ l u. run_stops at (omega arith) (omega arith) (omega arith) (ap (λ p. class (byte p)) same ∙ u);
      }

  pub word_refused : (at n : ℕ) → n ≡ counted at → 24 < n → at < length text → WordRefused text at (stopped WordTooLong (at + 24))
  word_refused at n c long h =
      let e = run_counted at n c in
      let most = run_within at (omega arith) in
      word_too_long at (at + 24) refl (omega arith) (run_passes at 24 (omega arith) (omega arith)) (run_leads at 23 (omega arith) (omega arith) h)
