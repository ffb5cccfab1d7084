pub mod AscentLaws
pub mod WalkLaws
pub mod RuleLaws
