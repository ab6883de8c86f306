pub mod RingLaws
pub mod LaneLaws
