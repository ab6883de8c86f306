pub mod Requests
pub mod Replies
pub mod Pumps
pub mod Serving
pub mod Sessions
pub mod Courses
pub mod Faults
pub mod Jobs
