use Rattle.std.proofs.Common.{Vec, ◌∙◌}
use Rattle.std.proofs.lemmas.Result.{err_from_is_err_and}
use Rattle.std.specs.declared.alloc.Global.{Global}
use Rattle.words.specs.declared.tree.Word.{Word}
use Rattle.forms.specs.Views.{name_at, names_at}
use Rattle.forms.proofs.Next.{names_of, none_so_far, word_stops, one_more_word, no_more_words}
use Rattle.forms.proofs.Steps.{denied}
use Rattle.forms.proofs.read.names.Goals as goal

pub loop-item-init : goal.loop-item-init
loop-item-init c = λ line. none_so_far line c.deref-item-items.result.now c.new-words.result.items c.new-words.ensures.items

pub returns-in_err-word : goal.returns-in_err-word
returns-in_err-word c =
    let p = err_from_is_err_and c.from_residual.result c.from_residual.ensures.1 in
    let items = c.deref-item-items.result.now in
    rw (p.1, p.2) (λ line. denied (name_at line) (λ (ws : Vec Word Global). names_at line ws.items) _ _ _ (c.in_err-word.ensures line) (λ none.
    names_of line c.args.item.now c.in-List.items items c.in-List.is c.deref-item-items.ensures.value
    ∙ word_stops line items c.loop-item.words.items c.loop-item.item-index c.item-item.result c.loop-item-test.true c.item-item.is (c.loop-item.invariant line) none))

pub loop-item-preserved : goal.loop-item-preserved
loop-item-preserved c = λ line.
    one_more_word line c.deref-item-items.result.now c.loop-item.words.items c.push.new.self.items c.loop-item.item-index c.item-item.result c.in_ok-word.field-0
    c.loop-item-test.true c.item-item.is (c.loop-item.invariant line) (c.in_ok-word.ensures line) c.in_ok-push.ensures.items

pub returns : goal.returns
returns c = λ line.
    let items = c.deref-item-items.result.now in
    names_of line c.args.item.now c.in-List.items items c.in-List.is c.deref-item-items.ensures.value
    ∙ no_more_words line items c.loop-item.words.items c.loop-item.item-index c.loop-item-test.false (c.loop-item.invariant line)
