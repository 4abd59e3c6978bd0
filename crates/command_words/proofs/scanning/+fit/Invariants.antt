use Rattle.std.proofs.Common.{length}
use Rattle.command_words.proofs.scanning.+fit.Given as goal

-- each argument is at least one word
abbrev pub decreases-fit : goal.decreases-fit
decreases-fit l = length l.words.now
