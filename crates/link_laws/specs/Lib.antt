pub mod LinkLaws
