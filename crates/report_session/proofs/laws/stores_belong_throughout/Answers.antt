use Rattle.std.proofs.Common.{None}
use Rattle.checkpoint.specs.{written_header}
use Rattle.report_session.proofs.BelongingSessionLemmas.{belonging_session_by_its_bytes, belonging_session_on_same_disk}
use Rattle.report_session.proofs.BelongingSessionLemmas.{belonging_sessions}
use Rattle.report_session.proofs.laws.stores_belong_throughout.Goals as goal

pub returns-clause-formatted : goal.returns-clause-formatted
returns-clause-formatted g c = λ settings lists image opens.
    belonging_session_by_its_bytes c.stores_show_their_header.ensures (written_header settings) lists image (None, opens, tt)

pub returns-clause-as_before : goal.returns-clause-as_before
returns-clause-as_before g c = λ old new settings lists same belonged.
    belonging_session_on_same_disk g.D.Disk g.met.D.Disk.now_is_since settings lists old new same belonged

pub returns-clause-by_dealers : goal.returns-clause-by_dealers
returns-clause-by_dealers g c =
    belonging_sessions c.stores_open_to_one.ensures c.stores_show_their_header.ensures c.reported_cuts_represent.ensures g.D.Disk
    g.met.D.Disk.reading_is_image _

pub returns-clause-by_formula : goal.returns-clause-by_formula
returns-clause-by_formula g c = λ formula.
    belonging_sessions c.stores_open_to_one.ensures c.stores_show_their_header.ensures c.reported_cuts_represent.ensures g.D.Disk
    g.met.D.Disk.reading_is_image _
