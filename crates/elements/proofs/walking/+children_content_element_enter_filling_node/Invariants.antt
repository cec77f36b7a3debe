-- The cycle of content, node, element and what an element holds: each content of an element has one level fewer.
use Rattle.std.proofs.Common.{◌≡◌, ◌+◌, ◌-◌, ◌*◌, length}
use Rattle.elements.specs.Goings.{read_on, reached_at, Ready, content_at}
use Rattle.elements.proofs.walking.+children_content_element_enter_filling_node.Given as goal

abbrev pub decreases-children : goal.decreases-children
decreases-children l = l.left * 6 + 5

abbrev pub decreases-content : goal.decreases-content
decreases-content l = l.left * 6 + 3

abbrev pub decreases-element : goal.decreases-element
decreases-element l = l.left * 6 + 1

abbrev pub decreases-enter : goal.decreases-enter
decreases-enter l = l.left * 6

abbrev pub decreases-filling : goal.decreases-filling
decreases-filling l = l.left * 6 + 4

abbrev pub decreases-node : goal.decreases-node
decreases-node l = l.left * 6 + 2

abbrev pub invariant-content-loop-w : goal.invariant-content-loop-w
invariant-content-loop-w l =
    Ready l.s l.n l.here l.w
    × (read_on (content_at l.left (length l.s - l.here) (reached_at l.s l.fn.phase l.initial.w)) l.s l.at ≡ read_on (content_at l.left (length l.s - l.here) (reached_at l.s l.p l.w)) l.s l.n)
    × (length l.w ≡ length l.initial.w)

abbrev pub decreases-content-loop-w : goal.decreases-content-loop-w
decreases-content-loop-w l = length l.s - l.n
