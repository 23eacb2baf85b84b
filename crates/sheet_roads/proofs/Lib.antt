-- distances and times
pub mod RoadLaws
