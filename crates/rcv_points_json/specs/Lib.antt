pub mod PointsJson
