pub mod Draws
pub mod Address
pub mod Frame
pub mod Making
-- within the crate
pub mod Piece
-- the face: what contracts of other crates cite, and the parts of a made capture
pub use Rattle.traffic_maker.specs.Making.{made_capture, capture_frames, most_frames}
unfoldable pub use Rattle.traffic_maker.specs.Making.{capture_header}
unfoldable pub use Rattle.traffic_maker.specs.Frame.{frame_bytes, made_frame}
pub use Rattle.traffic_maker.specs.Frame.{ethernet_header, ip_header, wire_length}
pub use Rattle.traffic_maker.specs.Address.{made_address}
pub use Rattle.traffic_maker.specs.Draws.{draw}
