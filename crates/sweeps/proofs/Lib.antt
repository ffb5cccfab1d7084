pub mod MarkLaws
pub mod SweepLaws
pub mod PackLaws
pub mod LowestLaws
pub mod RoomLaws
