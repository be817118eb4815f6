pub mod Told
pub mod HeadLaws
pub mod GainLaws
pub mod Steps
pub mod Complete
pub mod Answered
pub mod OneCause
