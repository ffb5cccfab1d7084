pub mod PlacingLaws
pub mod SlotsLaws
pub mod WayLaws
pub mod AlongLaws
pub mod RefillLaws
pub mod LayOutLaws
pub mod CallLaws
pub mod AgreeLaws
