use Rattle.dealt_capture.proofs.DealtCaptureLemmas.{dealt_capture_lists_agree, dealt_capture_records_agree}
use Rattle.dealt_capture.proofs.laws.captures_are_dealt_in_one_way.Goals as goal

pub returns-clause-records : goal.returns-clause-records
returns-clause-records c = λ formula settings other file records others lists other_lists weigh is is_other.
    dealt_capture_records_agree c.files_are_read_or_refused.ensures.one_list settings.front other.front file settings.weigh other.weigh
    is.frames is_other.frames records others weigh is.capture is_other.capture is.are_records is_other.are_records

pub returns-clause-cut : goal.returns-clause-cut
returns-clause-cut c = λ formula settings other file records others lists other_lists is is_other.
    c.files_are_read_or_refused.ensures.one_cut other.front settings.front file is_other.frames is.frames others.cut records.cut
    is_other.capture is.capture

pub returns-clause-lists : goal.returns-clause-lists
returns-clause-lists c = λ formula settings other file records others lists other_lists shards deal weigh is is_other.
    dealt_capture_lists_agree c.a_formula_deals_in_one_way.ensures formula settings.deal other.deal settings.shards other.shards
    records.list others.list lists other_lists deal shards
    (dealt_capture_records_agree c.files_are_read_or_refused.ensures.one_list settings.front other.front file settings.weigh other.weigh
    is.frames is_other.frames records others weigh is.capture is_other.capture is.are_records is_other.are_records) is.dealt is_other.dealt
