pub mod RunLaws
pub mod PieceLaws
pub mod AlikeLaws
pub mod SameAnswers
pub mod FedLaws
