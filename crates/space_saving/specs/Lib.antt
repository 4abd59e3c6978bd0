pub mod Summary
-- within the crate
pub mod Places
-- the face: what contracts of other crates cite
pub use Rattle.space_saving.specs.Summary.{TableAdd, KeysApart, AreTableEntries, AreWeighed}
pub use Rattle.space_saving.specs.Summary.{HasSmallError, TableInterval, IsTable, RisesFrom, TableValue}
pub use Rattle.space_saving.specs.Summary.{enter_table}
pub use Rattle.space_saving.specs.Summary.{table_entry, interval_after, interval_from, interval_in}
pub use Rattle.space_saving.specs.Summary.{least_capacity, least_count, most_capacity, put_into}
pub use Rattle.space_saving.specs.Summary.{replace_head, after_step, after_step_from, table_limit}
pub use Rattle.space_saving.specs.Summary.{table_of, total_added, table_total, weight_of_key}
pub use Rattle.space_saving.specs.Summary.{table_without}
