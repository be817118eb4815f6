pub mod EagerLaws
