use Rattle.std.proofs.Common.{◌/◌, get_or, max, ◌∙◌}
use Rattle.loser_tree.proofs.ClimbNodeLemmas.{climb_goes_up_three_levels, set_node_keeps_length}
use Rattle.loser_tree.proofs.nodes.climb_three_levels.Goals as goal

pub returns-clause-shape : goal.returns-clause-shape
returns-clause-shape c =
    set_node_keeps_length c.meet-least_of_three.new.nodes c.meet.new.nodes (c.args.node / 8)
    (max c.meet-least_of_three.result (get_or c.meet-least_of_three.new.nodes (c.args.node / 8) 0)) c.meet.ensures.greater
    ∙ set_node_keeps_length c.meet-lesser.new.nodes c.meet-least_of_three.new.nodes (c.args.node / 4)
    (max c.meet-lesser.result (get_or c.meet-lesser.new.nodes (c.args.node / 4) 0)) c.meet-least_of_three.ensures.greater
    ∙ set_node_keeps_length c.args.nodes.now c.meet-lesser.new.nodes (c.args.node / 2)
    (max c.args.word (get_or c.args.nodes.now (c.args.node / 2) 0)) c.meet-lesser.ensures.greater

pub returns-clause-climbed : goal.returns-clause-climbed
returns-clause-climbed c leaves past climb =
    climb_goes_up_three_levels leaves c.args.nodes.now c.meet-lesser.new.nodes c.meet-least_of_three.new.nodes c.meet.new.nodes past c.args.node c.args.word
    c.meet-lesser.result c.meet-least_of_three.result c.meet.result c.requires.inner c.requires.within climb
    c.meet-lesser.ensures.greater c.meet-lesser.ensures.lesser c.meet-least_of_three.ensures.greater c.meet-least_of_three.ensures.lesser
    c.meet.ensures.greater c.meet.ensures.lesser
