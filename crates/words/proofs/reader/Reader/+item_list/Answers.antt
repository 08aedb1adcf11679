use Rattle.std.proofs.Common.{◌≡◌, suc, ◌-◌, ◌<◌, arith}
use Rattle.std.proofs.lemmas.Result.{err_from_is_err_and}
use Rattle.words.specs.Tree.{shape}
use Rattle.words.proofs.Between.{item_word, item_word_refused, item_list, item_list_refused, item_other, list_empty, list_close, list_space, list_ends, list_other}
use Rattle.words.proofs.Shapes.{item_of_word, item_of_list, shape_push}
use Rattle.words.proofs.reader.Reader.+item_list.Goals as goal
use Rattle.words.proofs.reader.Reader.+item_list.Goals.{item-in_default-via-in-40+else-room-gt0, item-in_default-via-in_default-1}

pub item-returns-in_err-items-in-40 : goal.item-returns-in_err-items-in-40
item-returns-in_err-items-in-40 t c =
    let p = err_from_is_err_and c.from_residual-in_err-items-in-40.result c.from_residual-in_err-items-in-40.ensures.1 in
    let more : 8 - c.args.room < 8 = omega arith in
    let deeper : 8 - (c.args.room - 1) ≡ suc (8 - c.args.room) = omega arith in
    rw (p.1, p.2) (λ xs due.
    item_list_refused c.args.self.now.text.now c.args.at (8 - c.args.room) xs c.in_ok-b.b c.in_ok-b.ensures _ (8 - (c.args.room - 1)) c.in-40.is deeper more c.in_err-items-in-40.ensures)

pub item-returns-in_ok-items-in-40 : goal.item-returns-in_ok-items-in-40
item-returns-in_ok-items-in-40 t c =
    let more : 8 - c.args.room < 8 = omega arith in
    let deeper : 8 - (c.args.room - 1) ≡ suc (8 - c.args.room) = omega arith in
    λ xs due.
    rw (item_of_list c.args.self.now.text.now c.in_ok-items-in-40.items)
    (item_list c.args.self.now.text.now c.args.at (8 - c.args.room) xs c.in_ok-b.b c.in_ok-b.ensures _ _ (8 - (c.args.room - 1)) c.in-40.is deeper more c.in_ok-items-in-40.ensures)

pub item-returns-in_err-upto-in_default : goal.item-returns-in_err-upto-in_default
item-returns-in_err-upto-in_default t c =
    let p = err_from_is_err_and c.from_residual-in_err-upto-in_default.result c.from_residual-in_err-upto-in_default.ensures.1 in
    rw (p.1, p.2) (λ xs due.
    item_word_refused c.args.self.now.text.now c.args.at (8 - c.args.room) xs c.in_ok-b.b c.in_ok-b.ensures _ c.if-is_word_byte.ensures c.in_err-upto-in_default.ensures)

pub item-returns-in_ok-upto-in_default : goal.item-returns-in_ok-upto-in_default
item-returns-in_ok-upto-in_default t c = λ xs due.
    rw (item_of_word c.args.self.now.text.now (record { from = c.args.at; upto = c.in_ok-upto-in_default.upto }))
    (item_word c.args.self.now.text.now c.args.at (8 - c.args.room) xs c.in_ok-b.b c.in_ok-b.ensures c.in_ok-upto-in_default.upto c.if-is_word_byte.ensures c.in_ok-upto-in_default.ensures)

pub item-returns-in_default-2 : goal.item-returns-in_default-2
item-returns-in_default-2 t c =
    let full : c.in_ok-b.b ≡ 40 → 8 - c.args.room ≡ 8 = λ is. elim c.in_default.branch [
      | item-in_default-via-in-40+else-room-gt0 w ↦ omega arith
      | item-in_default-via-in_default-1 w ↦ absurd (omega arith)
    ] in
    rw (c.stop.ensures, c.refusal_of.ensures) (λ xs due.
    item_other c.args.self.now.text.now c.args.at (8 - c.args.room) xs c.in_ok-b.b c.in_ok-b.ensures full c.if-is_word_byte.ensures due)

pub list-returns-then-branch-eq41 : goal.list-returns-then-branch-eq41
list-returns-then-branch-eq41 t c =
    rw c.new-items.ensures.items
    (list_empty c.args.self.now.text.now c.args.from (8 - c.args.room) c.in_ok-byte.field-0 c.in_ok-byte.ensures c.if-branch-eq41.true)

pub list-returns-in_err-b : goal.list-returns-in_err-b
list-returns-in_err-b t c =
    let p = err_from_is_err_and c.from_residual-in_err-b.result c.from_residual-in_err-b.ensures.1 in
    let text = c.args.self.now.text.now in
    let I = c.loop-items.invariant in
    rw (p.1, p.2, c.in_err-b.ensures.1)
    (list_ends text c.args.from (8 - c.args.room) (shape text c.loop-items.items.items) c.loop-items.at I.leads _ c.in_ok-item.end (c.in_ok-item.ensures _ I.due) c.in_err-b.ensures.0)

pub list-returns-in-41 : goal.list-returns-in-41
list-returns-in-41 t c =
    let text = c.args.self.now.text.now in
    let I = c.loop-items.invariant in
    rw (c.in_ok-push-in-41.ensures.items, c.in_ok-reserve_exact-in-41.ensures.items, shape_push text c.loop-items.items.items c.in_ok-item.item)
    (list_close text c.args.from (8 - c.args.room) (shape text c.loop-items.items.items) c.loop-items.at I.leads _ c.in_ok-item.end (c.in_ok-item.ensures _ I.due)
    c.in_ok-b.b c.in_ok-b.ensures I.from_on c.in-41.is)

pub list-loop-items-smaller : goal.list-loop-items-smaller
list-loop-items-smaller t c =
    let R = c.in_ok-item.ensures _ c.loop-items.invariant.due in
    omega (arith, R.later, c.in_ok-b.ensures.0)

pub list-loop-items-preserved : goal.list-loop-items-preserved
list-loop-items-preserved t c =
    let text = c.args.self.now.text.now in
    let I = c.loop-items.invariant in
    let R = c.in_ok-item.ensures _ I.due in
    rw (c.in_ok-push-in-32.ensures.items, shape_push text c.loop-items.items.items c.in_ok-item.item) (record {
      from_on = omega (arith, R.later, I.from_on);
      within = omega (arith, c.in_ok-b.ensures.0);
      due = λ e b. R.some e;
      leads = list_space text c.args.from (8 - c.args.room) (shape text c.loop-items.items.items) c.loop-items.at I.leads _ c.in_ok-item.end R c.in_ok-b.b c.in_ok-b.ensures c.in-32.is;
    })

pub list-returns-in_default : goal.list-returns-in_default
list-returns-in_default t c =
    let text = c.args.self.now.text.now in
    let I = c.loop-items.invariant in
    rw (c.stop.ensures, c.refusal_of.ensures)
    (list_other text c.args.from (8 - c.args.room) (shape text c.loop-items.items.items) c.loop-items.at I.leads _ c.in_ok-item.end (c.in_ok-item.ensures _ I.due)
    c.in_ok-b.b c.in_ok-b.ensures (omega arith) (omega arith))
