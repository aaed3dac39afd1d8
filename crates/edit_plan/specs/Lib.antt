pub mod Planning
pub mod ColumnLaws
pub mod BuildLaws
pub mod PlanLaws
