use Rattle.std.proofs.Common.{◌≡◌, ◌∙◌}
use Rattle.key_index.specs.Homes.{home_at}
use Rattle.key_index.proofs.HomeLemmas.{home_mixed_on, home_of_mixed, home_marked_on}
use Rattle.key_index.proofs.key_index.free_home.Goals as goal

pub returns-then-not-is_full-clause-home : goal.returns-then-not-is_full-clause-home
returns-then-not-is_full-clause-home c =
    home_of_mixed c.args.room c.loop-turn.turn c.args.key c.loop-turn.number c.mix-number.result c.home_of-home.result
    c.loop-turn.invariant.number c.mix-number.ensures c.home_of-home.ensures.home

pub loop-turn-preserved : goal.loop-turn-preserved
loop-turn-preserved c =
    let home = c.home_of-home.result in
    let at : home ≡ home_at c.args.room c.loop-turn.turn c.args.key = home_of_mixed c.args.room c.loop-turn.turn c.args.key c.loop-turn.number
    c.mix-number.result home c.loop-turn.invariant.number c.mix-number.ensures c.home_of-home.ensures.home in
    record {
      number = home_mixed_on c.loop-turn.turn c.args.key c.loop-turn.number c.mix-number.result c.loop-turn.invariant.number c.mix-number.ensures;
      homes = c.set.ensures.length ∙ c.loop-turn.invariant.homes;
      passed = home_marked_on c.args.room c.loop-turn.turn c.args.key home c.set.new.self at c.set.ensures.marked
          (λ earlier before early. c.set.ensures.kept (home_at c.args.room earlier c.args.key) (c.loop-turn.invariant.passed earlier before early));
      kept = λ other marked. c.set.ensures.kept other (c.loop-turn.invariant.kept other marked);
    }
