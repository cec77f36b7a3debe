use Rattle.std.proofs.Common.{refl, rules}
use Rattle.elements.proofs.Goings.{gone_passed}
use Rattle.elements.proofs.Walks.{stray_faults, stray_read, comment_faults, comment_read, node_element, ready_passed, content_starts, content_over, content_stops, content_turns, content_less, content_ready}
use Rattle.elements.proofs.Walks.{ended_faults, ended_whole, filling_stops, closing_faults, filling_closes, begin_faults, children_stop, children_filled}
use Rattle.elements.proofs.Walks.{enter_misplaced, enter_deep, enter_refused, enter_text, enter_lacking, enter_children, element_stops, element_enters}
use Rattle.elements.proofs.walking.+children_content_element_enter_filling_node.Goals as goal

pub children-returns-in_err-begin : goal.children-returns-in_err-begin
children-returns-in_err-begin t c = gone_passed c.from_residual.ensures.1 (begin_faults _ _ _ _ c.requires _ c.args.holder _ _ c.in_err-begin.ensures)

pub children-returns-in_err-z : goal.children-returns-in_err-z
children-returns-in_err-z t c = gone_passed c.from_residual-in_err-z.ensures.1 (search (rules, children_stop))

pub children-returns : goal.children-returns
children-returns t c = search (rules, children_filled)

pub content-loop-w-init : goal.content-loop-w-init
content-loop-w-init t c = (search (rules, ready_passed), search (rules, content_starts), refl)

pub content-returns-in_err-g : goal.content-returns-in_err-g
content-returns-in_err-g t c = gone_passed c.from_residual.ensures.1 (search (rules, content_stops))

pub content-loop-w-smaller : goal.content-loop-w-smaller
content-loop-w-smaller t c = search (rules, content_less)

pub content-loop-w-preserved : goal.content-loop-w-preserved
content-loop-w-preserved t c = (search (rules, content_ready), search (rules, content_turns), search rules)

pub content-returns : goal.content-returns
content-returns t c = search (rules, content_over)

pub element-returns-in_err-t : goal.element-returns-in_err-t
element-returns-in_err-t t c = gone_passed c.from_residual.ensures.1 (search (rules, element_stops))

pub element-returns : goal.element-returns
element-returns t c = search (rules, element_enters)

pub enter-returns-in-Misplaced : goal.enter-returns-in-Misplaced
enter-returns-in-Misplaced t c = search (rules, enter_misplaced)

pub enter-returns-in_default : goal.enter-returns-in_default
enter-returns-in_default t c = search (rules, enter_deep)

pub enter-returns-in-Refused : goal.enter-returns-in-Refused
enter-returns-in-Refused t c = search (rules, enter_refused)

pub enter-returns-in-Says : goal.enter-returns-in-Says
enter-returns-in-Says t c = search (rules, enter_text)

pub enter-returns-in-Holds : goal.enter-returns-in-Holds
enter-returns-in-Holds t c = search (rules, enter_lacking)

pub enter-returns-in-Holds-2 : goal.enter-returns-in-Holds-2
enter-returns-in-Holds-2 t c = search (rules, enter_children)

pub filling-returns-in_err-next : goal.filling-returns-in_err-next
filling-returns-in_err-next t c = gone_passed c.from_residual.ensures.1 (ended_faults _ _ _ _ c.requires _ _ c.if-not-t.true _ c.in_err-next.ensures.within c.in_err-next.ensures.exact)

pub filling-returns-then-not-t : goal.filling-returns-then-not-t
filling-returns-then-not-t t c = ended_whole _ _ _ _ c.requires _ _ c.if-not-t.true _ c.in_ok-next.ensures.within c.in_ok-next.ensures.exact

pub filling-returns-in_err-c : goal.filling-returns-in_err-c
filling-returns-in_err-c t c = gone_passed c.from_residual-in_err-c.ensures.1 (search (rules, filling_stops))

pub filling-returns-in_err-next-2 : goal.filling-returns-in_err-next-2
filling-returns-in_err-next-2 t c = gone_passed c.from_residual-in_err-next-2.ensures.1 (closing_faults _ _ _ _ c.requires _ _ c.if-not-t.false _ _ c.in_ok-c.ensures _ c.in_err-next-2.ensures.within c.in_err-next-2.ensures.exact)

pub filling-returns : goal.filling-returns
filling-returns t c = filling_closes _ _ _ _ c.requires _ _ c.if-not-t.false _ _ c.in_ok-c.ensures _ c.in_ok-next-2.ensures.within c.in_ok-next-2.ensures.exact

pub node-returns-in_err-next : goal.node-returns-in_err-next
node-returns-in_err-next t c = gone_passed c.from_residual.ensures.1 (stray_faults _ _ _ _ _ _ _ c.is_tag.ensures c.requires c.if-not-is_tag.true _ c.in_err-next.ensures.within c.in_err-next.ensures.exact)

pub node-returns-then-not-is_tag : goal.node-returns-then-not-is_tag
node-returns-then-not-is_tag t c = stray_read _ _ _ _ _ _ _ c.is_tag.ensures c.requires c.if-not-is_tag.true _ c.in_ok-next.ensures.within c.in_ok-next.ensures.exact

pub node-returns-in_err-next-2 : goal.node-returns-in_err-next-2
node-returns-in_err-next-2 t c = gone_passed c.from_residual-in_err-next-2.ensures.1 (search (rules, comment_faults))

pub node-returns-then-is_comment : goal.node-returns-then-is_comment
node-returns-then-is_comment t c = search (rules, comment_read)

pub node-returns : goal.node-returns
node-returns t c = search (rules, node_element)
